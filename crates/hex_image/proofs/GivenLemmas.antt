-- Which bytes cells give, and cells that give no address twice.
use Rattle.std.proofs.Common.{◌≡◌, ℕ, ◌+◌, ◌<◌, ◌≤◌, ◌==◌, Bool, true, false, cond, List, [], ◌∷◌, ◌++◌, length, map, Some, None, refl, ap, ◌∙◌, arith}
use Rattle.std.specs.Prelude.{nat_eq}
use Rattle.std.specs.List.{AllByRecursion, IsDistinct}
use Rattle.std.proofs.lemmas.Bool.Decides.{nat_tests}
use Rattle.hex_image.specs.declared.flash.Base.{Base}
use Rattle.hex_image.specs.declared.flash.Base.TheVariants as bases
use Rattle.hex_image.specs.Image.{Cell, address, cells_from, byte_at, extent}
use Rattle.hex_image.proofs.ListLemmas.{all_weaker, all_both}

-- nothing is given past the extent
pub byte_at-past : (cells : List Cell) (at : ℕ) → extent cells ≤ at → byte_at cells at ≡ None
byte_at-past [] at h = refl
byte_at-past (c ∷ cells) at h =
    let rest = byte_at-past cells at (omega arith) in
    let apart : (c.at == at) ≡ false = grind (arith, nat_tests) in
    ap (λ b. cond b (Some c.byte) (byte_at cells at)) apart ∙ rest

-- what two lists of cells give, where the first gives nothing
pub byte_at-append_none : (a b : List Cell) (at : ℕ) → byte_at a at ≡ None → byte_at (a ++ b) at ≡ byte_at b at
byte_at-append_none [] b at h = refl
byte_at-append_none (c ∷ a) b at h = go (c.at == at) h (byte_at-append_none a b at)
  where
    go : (t : Bool) → cond t (Some c.byte) (byte_at a at) ≡ None → (byte_at a at ≡ None → byte_at (a ++ b) at ≡ byte_at b at) → cond t (Some c.byte) (byte_at (a ++ b) at) ≡ byte_at b at
    go true e k = cc e
    go false e k = k e

-- where nothing is given by the head, nothing is by the rest, and the head lies elsewhere
pub byte_at-none_parts : (c : Cell) (a : List Cell) (at : ℕ) → byte_at (c ∷ a) at ≡ None → ((c.at == at) ≡ false) × (byte_at a at ≡ None)
byte_at-none_parts c a at h = go (c.at == at) h
  where
    go : (t : Bool) → cond t (Some c.byte) (byte_at a at) ≡ None → (t ≡ false) × (byte_at a at ≡ None)
    go true e = cc e
    go false e = (refl, e)

pub byte_at-none_cons : (c : Cell) (a : List Cell) (at : ℕ) → (c.at == at) ≡ false → byte_at a at ≡ None → byte_at (c ∷ a) at ≡ None
byte_at-none_cons c a at e h = ap (λ b. cond b (Some c.byte) (byte_at a at)) e ∙ h

pub byte_at-append_both : (a b : List Cell) (at : ℕ) → byte_at (a ++ b) at ≡ None → (byte_at a at ≡ None) × (byte_at b at ≡ None)
byte_at-append_both [] b at h = (refl, h)
byte_at-append_both (c ∷ a) b at h =
    let parts = byte_at-none_parts c (a ++ b) at h in
    let rest = byte_at-append_both a b at parts.1 in
    (byte_at-none_cons c a at parts.0 rest.0, rest.1)

flip : (x y : ℕ) → (x == y) ≡ false → (y == x) ≡ false
flip x y h = grind (arith, nat_tests)

-- no address is given twice
abbrev pub AreOnce : List Cell → Type 0
AreOnce [] = Unit {0}
AreOnce (c ∷ cells) = (byte_at cells c.at ≡ None) × AreOnce cells

-- the cells of b lie where a gives nothing
abbrev pub LieApart : List Cell → List Cell → Type 0
LieApart a b = AllByRecursion (λ c. byte_at a c.at ≡ None) b

-- no cell of b lies at the address of c
apart_from_head : (c : Cell) (b : List Cell) → AllByRecursion (λ d. (c.at == d.at) ≡ false) b → byte_at b c.at ≡ None
apart_from_head c [] h = refl
apart_from_head c (d ∷ b) h = byte_at-none_cons d b c.at (flip c.at d.at h.0) (apart_from_head c b h.1)

pub head_apart : (c : Cell) (b : List Cell) → byte_at b c.at ≡ None → AllByRecursion (λ d. (c.at == d.at) ≡ false) b
head_apart c [] h = tt
head_apart c (d ∷ b) h =
    let parts = byte_at-none_parts d b c.at h in
    (flip d.at c.at parts.0, head_apart c b parts.1)

pub AreOnce-append : (a b : List Cell) → AreOnce a → AreOnce b → LieApart a b → AreOnce (a ++ b)
AreOnce-append [] b h k apart = k
AreOnce-append (c ∷ a) b h k apart =
    let heads = all_weaker (λ d. byte_at (c ∷ a) d.at ≡ None) (λ d. (c.at == d.at) ≡ false) (λ d e. (byte_at-none_parts c a d.at e).0) b apart in
    let tails = all_weaker (λ d. byte_at (c ∷ a) d.at ≡ None) (λ d. byte_at a d.at ≡ None) (λ d e. (byte_at-none_parts c a d.at e).1) b apart in
    (byte_at-append_none a b c.at h.0 ∙ apart_from_head c b heads, AreOnce-append a b h.1 k tails)

pub AreOnce-front : (a b : List Cell) → AreOnce (a ++ b) → AreOnce a
AreOnce-front [] b h = tt
AreOnce-front (c ∷ a) b h = ((byte_at-append_both a b c.at h.0).0, AreOnce-front a b h.1)

pub AreOnce-back : (a b : List Cell) → AreOnce (a ++ b) → AreOnce b
AreOnce-back [] b h = h
AreOnce-back (c ∷ a) b h = AreOnce-back a b h.1

all_none : (b : List Cell) → LieApart [] b
all_none [] = tt
all_none (d ∷ b) = (refl, all_none b)

pub AreOnce-apart : (a b : List Cell) → AreOnce (a ++ b) → LieApart a b
AreOnce-apart [] b h = all_none b
AreOnce-apart (c ∷ a) b h =
    all_both (λ d. (c.at == d.at) ≡ false) (λ d. byte_at a d.at ≡ None) (λ d. byte_at (c ∷ a) d.at ≡ None)
    (λ d e f. byte_at-none_cons c a d.at e f) b (head_apart c b (byte_at-append_both a b c.at h.0).1) (AreOnce-apart a b h.1)

-- ---- the same by distinct addresses

distinct_head : (c : Cell) (b : List Cell) → byte_at b c.at ≡ None → AllByRecursion (λ y. nat_eq c.at y ≡ false) (map (λ d. d.at) b)
distinct_head c [] h = tt
distinct_head c (d ∷ b) h =
    let parts = byte_at-none_parts d b c.at h in
    (flip d.at c.at parts.0, distinct_head c b parts.1)

head_distinct : (c : Cell) (b : List Cell) → AllByRecursion (λ y. nat_eq c.at y ≡ false) (map (λ d. d.at) b) → byte_at b c.at ≡ None
head_distinct c [] h = refl
head_distinct c (d ∷ b) h = byte_at-none_cons d b c.at (flip c.at d.at h.0) (head_distinct c b h.1)

pub distinct_from_once : (cells : List Cell) → AreOnce cells → IsDistinct nat_eq (map (λ c. c.at) cells)
unfolding IsDistinct
distinct_from_once [] h = tt
distinct_from_once (c ∷ cells) h = (distinct_head c cells h.0, distinct_from_once cells h.1)

pub once_from_distinct : (cells : List Cell) → IsDistinct nat_eq (map (λ c. c.at) cells) → AreOnce cells
unfolding IsDistinct
once_from_distinct [] h = tt
once_from_distinct (c ∷ cells) h = (head_distinct c cells h.0, once_from_distinct cells h.1)

-- ---- the cells of one record

-- offsets less than 65536 apart have addresses apart
address-apart : (base : Base) (o p : ℕ) → p < o → o < p + 65536 → (address base o == address base p) ≡ false
address-apart bases.Zero o p h k = grind (arith, nat_tests)
address-apart (bases.Segment n) o p h k = grind (arith, nat_tests)
address-apart (bases.Linear n) o p h k = grind (arith, nat_tests)

cells_from-apart : (base : Base) (bytes : List ℕ) (o p : ℕ) → p < o → o + length bytes ≤ p + 65536 → byte_at (cells_from base o bytes) (address base p) ≡ None
cells_from-apart base [] o p h k = refl
cells_from-apart base (b ∷ bytes) o p h k =
    byte_at-none_cons (record { at = address base o; byte = b }) (cells_from base (o + 1) bytes) (address base p)
    (address-apart base o p h (omega arith)) (cells_from-apart base bytes (o + 1) p (omega arith) (omega arith))

pub AreOnce-cells_from : (base : Base) (bytes : List ℕ) (o : ℕ) → length bytes ≤ 65536 → AreOnce (cells_from base o bytes)
AreOnce-cells_from base [] o h = tt
AreOnce-cells_from base (b ∷ bytes) o h =
    (cells_from-apart base bytes (o + 1) o (omega arith) (omega arith), AreOnce-cells_from base bytes (o + 1) (omega arith))
