use Rattle.std.proofs.Common.{◌≡◌, None, sym, ◌∙◌}
use Rattle.listing.specs.Feeding.{State}
use Rattle.listing.specs.Held.{held}
use Rattle.listing.proofs.Taking.{first_line, region_line, other_line, particle_line}
use Rattle.listing.proofs.reader.end_line.Goals.{else-reader-eq0-2-via-else-reader-eq0-2, else-reader-eq0-2-via-then-reader-eq0-2+in-None-1}
use Rattle.listing.proofs.reader.end_line.Goals as goal

pub returns-then-reader-eq0 : goal.returns-then-reader-eq0
returns-then-reader-eq0 c =
    let s : State = record { reader = c.args.reader; memory = held c.args.m } in
    c.take_settings.ensures s.memory ∙ first_line s c.if-reader-eq0.true (rw c.front-text.ensures at c.settings_line.ensures)

pub returns : goal.returns
returns c =
    let s : State = record { reader = c.args.reader; memory = held c.args.m } in
    c.take_region.ensures s
    ∙ region_line s c.if-reader-eq0.false c.if-reader-eq0-2.true (sym (rw c.front-text.ensures at c.region_line.ensures) ∙ c.in-Some.is)

pub returns-2 : goal.returns-2
returns-2 c =
    let s : State = record { reader = c.args.reader; memory = held c.args.m } in
    let p = rw c.front-text.ensures at c.particle_line.ensures in
    c.take_particle.ensures
    ∙ elim c.else-reader-eq0-2.branch [
      | else-reader-eq0-2-via-else-reader-eq0-2 w ↦ particle_line s c.if-reader-eq0.false w.if-reader-eq0-2.false p
      | else-reader-eq0-2-via-then-reader-eq0-2+in-None-1 w ↦
          let none : w.region_line.result ≡ None = cc in
          other_line s c.if-reader-eq0.false w.if-reader-eq0-2.true (sym (rw c.front-text.ensures at w.region_line.ensures) ∙ none) p
    ]
