-- The check of the update in the steps in which the code makes it, and what it has shown where it refuses nothing. Assumes nothing.
use Rattle.std.proofs.Common.{◌≡◌, refl, ap, ap₂, ◌∙◌, Bool, true, false, ◌&&◌, not, List, [], ◌∷◌, ◌++◌, ℕ, ◌*◌, ◌^◌, eqb, ltb, Float, length, eqb-true}
use mathlib.Core.Bool.{and-true}
use Rattle.laws.specs.Store.{Store, store}
use Rattle.laws.specs.Hits.{run, gather}
use Rattle.laws.specs.Refusals as Refusals
use Rattle.laws.proofs.Refusals.{unless_passed}
use Rattle.grid.specs.Answers.{refused, refuse, unless, Answer, done}
use Rattle.grid.specs.Nodes.{region_cells}
use Rattle.grid.specs.Table.{matches, lengths, node_lengths, limits, good_width, good_step, settings, called, flags, numbers, region_ids}
use Rattle.grid.specs.declared.Rule.TheVariants.{Length, Setting, Code}
use Rattle.grid.proofs.Answers.{unless_end, refuse_passed, not_false}
use Rattle.grid.proofs.Lengths.{and_split, regroup, nodes_held}
use Rattle.grid.proofs.Steps.{called_then, passed}
use Rattle.update.specs.Boundary.{handling_of, known}
use Rattle.update.specs.Update.{collider_floats, projection_floats, projection_words, projection_lengths, after_colliders, updated_node, updates, updated, given, own_check, update_check, Ready, Empty}

module _ (h dt : Float) (code locks regions : ℕ) (ids : List ℕ) (count : ℕ) (colliders : List Float) (projections : Store) where
  -- whether all lengths match, as the code asks
  abbrev pub fitting : ℕ → ℕ → Bool
  fitting nf nw =
      eqb (length ids) regions
      && (eqb (length colliders) (count * collider_floats) && (matches (projection_lengths regions count (length projections.floats) (length projections.words)) && matches (node_lengths regions nf nw)))

  pub check_is : (nf nw : ℕ)
      → update_check h dt code locks regions ids count colliders projections nf nw
      ≡ unless (called (fitting nf nw) (limits regions 0 count) (good_width h && good_step dt) (own_check code locks)) (given ids colliders projections)
  unfolding update_check
  check_is nf nw =
      let a = eqb (length projections.floats) (regions * count * (region_cells * projection_floats)) in
      let b = eqb (length projections.words) (regions * count * (region_cells * projection_words)) in
      ap₂ (λ (x s : Bool). unless (refuse (not (eqb (length ids) regions && (eqb (length colliders) (count * collider_floats) && x))) Length 0)
      (unless (limits regions 0 count) (unless (refuse (not (good_width h && s)) Setting 0) (unless (own_check code locks) (unless (given ids colliders projections) done)))))
      (regroup a b (matches (node_lengths regions nf nw))) (and-true (good_step dt))
      ∙ called_then (fitting nf nw) (limits regions 0 count) (good_width h && good_step dt) (own_check code locks) (given ids colliders projections)

  -- ---- what it has shown

  pub record Shown (s : Store) : Type 0 where
    pub counted : length ids ≡ regions
    pub knows : known (handling_of code) ≡ true
    pub ready : Ready ids count colliders projections s

  pub shown : (nf : List Float) (nw : List ℕ) → refused (update_check h dt code locks regions ids count colliders projections (length nf) (length nw)) ≡ false → Shown (store nf nw)
  shown nf nw e =
      let fit = fitting (length nf) (length nw) in
      let lim = limits regions 0 count in
      let set = good_width h && good_step dt in
      let nodes = matches (node_lengths regions (length nf) (length nw)) in
      let a = eqb (length projections.floats) (regions * count * (region_cells * projection_floats)) in
      let b = eqb (length projections.words) (regions * count * (region_cells * projection_words)) in
      let steps : refused (unless (called fit lim set (own_check code locks)) (given ids colliders projections)) ≡ false = rw (check_is (length nf) (length nw)) at e in
      let p = passed fit lim set (own_check code locks) (unless_passed refused (called fit lim set (own_check code locks)) (given ids colliders projections) steps).0 in
      let own = not_false (known (handling_of code) && (ltb locks (2 ^ 2) && true)) (refuse_passed (not (known (handling_of code) && (ltb locks (2 ^ 2) && true))) Code 0 p.own) in
      let i = and_split (eqb (length ids) regions) (eqb (length colliders) (count * collider_floats) && ((a && (b && true)) && nodes)) p.lengths in
      let c = and_split (eqb (length colliders) (count * collider_floats)) ((a && (b && true)) && nodes) i.1 in
      let n = and_split (a && (b && true)) nodes c.1 in
      let f = and_split a (b && true) n.0 in
      let counted = eqb-true (length ids) regions i.0 in
      record {
        counted = counted;
        knows = (and_split (known (handling_of code)) (ltb locks (2 ^ 2) && true) own).0;
        ready = record {
          colliders_long = eqb-true (length colliders) (count * collider_floats) c.0;
          floats_long = rw counted (eqb-true (length projections.floats) (regions * count * (region_cells * projection_floats)) f.0);
          words_long = rw counted (eqb-true (length projections.words) (regions * count * (region_cells * projection_words)) (and_split b true f.1).0);
          nodes_held = rw counted (nodes_held regions nf nw n.1);
        };
      }

-- ---- an update of nothing

pub nothing : Empty
unfolding update_check given flags numbers region_ids Refusals.first_of updated updates updated_node after_colliders gather run
nothing =
    record {
      colliders = λ h dt code locks regions ids nf nw.
          ap (λ (a : Answer). unless (lengths ((length ids, regions) ∷ (0, 0) ∷ projection_lengths regions 0 0 0 ++ node_lengths regions nf nw))
          (unless (limits regions 0 0) (unless (settings (good_width h ∷ good_step dt ∷ [])) (unless (own_check code locks) a))))
          (unless_end _);
      check = λ h dt code locks. refl;
      locks_alone = λ handling h dt colliders projections locks ids r c n. refl;
      kept = λ h dt code locks count colliders projections s. refl;
    }
