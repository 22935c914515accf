-- An axis of an id: a mask says at which digits of the id the digits of the axis's coordinate stand, in order.
-- Assumes nothing.
use Rattle.std.specs.Prelude.{◌≡◌, ℕ, zero, suc, ◌+◌, ◌-◌, ◌*◌, ◌/◌, ◌%◌, ◌^◌, Bool, true, false, List, [], ◌∷◌, bit_and, bit_or}

-- a mask is its binary digits, lowest first
abbrev pub Mask : Type 0
Mask = List Bool

-- the number that the digits write
unfoldable pub num : Mask → ℕ
num [] = 0
num (true ∷ m) = num m * 2 + 1
num (false ∷ m) = num m * 2

-- how many digits are set
unfoldable pub count : Mask → ℕ
count [] = 0
count (true ∷ m) = suc (count m)
count (false ∷ m) = count m

-- the coordinate that is read from an id through the mask
unfoldable pub coord : Mask → ℕ → ℕ
coord [] i = 0
coord (true ∷ m) i = coord m (i / 2) * 2 + i % 2
coord (false ∷ m) i = coord m (i / 2)

-- the id with a coordinate placed through the mask, and 0 elsewhere
unfoldable pub place : Mask → ℕ → ℕ
place [] c = 0
place (true ∷ m) c = place m (c / 2) * 2 + c % 2
place (false ∷ m) c = place m c * 2

abbrev pub is_one : ℕ → Bool
is_one zero = false
is_one (suc n) = true

-- the k low digits of n, as a mask
unfoldable pub bits : ℕ → ℕ → Mask
bits zero n = []
bits (suc k) n = is_one (n % 2) ∷ bits k (n / 2)

-- the sum of the coordinates that a mask of 64 digits marks, modulo 2 to the number of its digits, back in place
unfoldable pub axis_sum : ℕ → ℕ → ℕ → ℕ
axis_sum mask i j =
    place (bits 64 mask) ((coord (bits 64 mask) i + coord (bits 64 mask) j) % 2 ^ count (bits 64 mask))

-- ---- a mask for each axis, and the coordinates in the same order; one that is missing counts as 0

abbrev pub hd : List ℕ → ℕ
hd [] = 0
hd (c ∷ cs) = c

abbrev pub tl : List ℕ → List ℕ
tl [] = []
tl (c ∷ cs) = cs

-- the coordinates of an id
unfoldable pub coords : List Mask → ℕ → List ℕ
coords [] i = []
coords (m ∷ ms) i = coord m i ∷ coords ms i

-- the id of coordinates
unfoldable pub packed : List Mask → List ℕ → ℕ
packed [] cs = 0
packed (m ∷ ms) cs = bit_or (place m (hd cs)) (packed ms (tl cs))

-- each coordinate modulo 2 to the number of its mask's digits
unfoldable pub wrapped : List Mask → List ℕ → List ℕ
wrapped [] cs = []
wrapped (m ∷ ms) cs = hd cs % 2 ^ count m ∷ wrapped ms (tl cs)

-- the sums of coordinates, so wrapped
unfoldable pub sums : List Mask → List ℕ → List ℕ → List ℕ
sums [] a b = []
sums (m ∷ ms) a b = (hd a + hd b) % 2 ^ count m ∷ sums ms (tl a) (tl b)

-- the sum of two ids adds their coordinates
unfoldable pub sum_of : List Mask → ℕ → ℕ → ℕ
sum_of ms i j = packed ms (sums ms (coords ms i) (coords ms j))

-- the negative of an id
unfoldable pub negs : List Mask → List ℕ → List ℕ
negs [] a = []
negs (m ∷ ms) a = (2 ^ count m - hd a) ∷ negs ms (tl a)

unfoldable pub minus : List Mask → ℕ → ℕ
minus ms i = packed ms (negs ms (coords ms i))

-- every digit of the masks; the other digits of an id are stray
unfoldable pub whole : List Mask → ℕ
whole [] = 0
whole (m ∷ ms) = bit_or (num m) (whole ms)

-- an id without stray digits
abbrev pub Clean : List Mask → ℕ → Type 0
Clean ms i = bit_and i (whole ms) ≡ i

-- the masks without their digits from k on
unfoldable pub low : ℕ → Mask → Mask
low k [] = []
low zero (b ∷ m) = false ∷ low zero m
low (suc k) (b ∷ m) = b ∷ low k m

unfoldable pub below : ℕ → List Mask → List Mask
unfolding low
below k [] = []
below k (m ∷ ms) = low k m ∷ below k ms
