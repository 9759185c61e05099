-- Going through a list item by item: what is left of it, and the first places in it.
use Rattle.std.proofs.Common.{◌≡◌, ℕ, zero, suc, ◌+◌, ◌==◌, ◌<◌, ◌≤◌, Some, None, Option, List, [], ◌∷◌, ◌++◌, length, get_or, drop, refl, sym, ap, ◌∙◌, arith, drop-cons, length-append, Bool, true, false, cond}
use Rattle.std.specs.List.{position_from}
use Rattle.sts_syntax.specs.declared.units.Item.{Item}
use Rattle.sts_syntax.specs.Programs.{top_level, top_levels}
use Rattle.std.specs.Option.{option_or}
use Rattle.sts_scope.specs.Entries.{item_class, class_names}

-- one item of a list, and the others behind it
pub drop_at : {A : Type 0} (xs : List A) (i : ℕ) (x : A) → i < length xs → x ≡ get_or xs i x → drop i xs ≡ x ∷ drop (i + 1) xs
drop_at xs i x lt is = let e : i + 1 ≡ suc i = omega arith in drop-cons xs i x lt ∙ ap (λ y. y ∷ drop (suc i) xs) (sym is) ∙ ap (λ n. x ∷ drop n xs) (sym e)

-- nothing is left behind the last
pub drop_end : {A : Type 0} (xs : List A) (i : ℕ) → length xs ≤ i → drop i xs ≡ []
drop_end [] zero h = refl
drop_end [] (suc i) h = refl
drop_end (x ∷ xs) zero h = absurd (omega arith)
drop_end (x ∷ xs) (suc i) h = let h' : length xs ≤ i = omega arith in drop_end xs i h'

pub or_else-none : {A : Type 0} (o : Option A) → option_or o None ≡ o
or_else-none None = refl
or_else-none (Some a) = refl

pub or_else-assoc : {A : Type 0} (a b c : Option A) → option_or (option_or a b) c ≡ option_or a (option_or b c)
or_else-assoc None b c = refl
or_else-assoc (Some x) b c = refl

cond_else : {A : Type 0} (b : Bool) (x : A) (u v : Option A) → cond b (Some x) (option_or u v) ≡ option_or (cond b (Some x) u) v
cond_else true x u v = refl
cond_else false x u v = refl

pub position-append : {A : Type 0} (p : A → Bool) (n : ℕ) (xs ys : List A) → position_from p n (xs ++ ys) ≡ option_or (position_from p n xs) (position_from p (n + length xs) ys)
position-append p n [] ys = let e : n ≡ n + 0 = omega arith in ap (λ m. position_from p m ys) e
position-append p n (x ∷ xs) ys =
    let e : n + 1 + length xs ≡ n + suc (length xs) = omega arith in
    ap (cond (p x) (Some n)) (position-append p (n + 1) xs ys ∙ ap (λ m. option_or (position_from p (n + 1) xs) (position_from p m ys)) e)
    ∙ cond_else (p x) n (position_from p (n + 1) xs) (position_from p (n + suc (length xs)) ys)

pub names_step : (items : List Item) (i : ℕ) (x : Item) → i < length items → x ≡ get_or items i x →
    class_names (top_levels (drop i items)) ≡ item_class (top_level x) ++ class_names (top_levels (drop (i + 1) items))
names_step items i x lt is = ap (λ xs. class_names (top_levels xs)) (drop_at items i x lt is)

-- where all are fewer than a limit, the next one's number is below it
pub number_fits : (items : List Item) (i : ℕ) (x : Item) (count first limit : ℕ) → i < length items → x ≡ get_or items i x →
    count + length (class_names (top_levels (drop i items))) ≡ first + length (class_names (top_levels items)) → first + length (class_names (top_levels items)) < limit →
    count + length (item_class (top_level x)) < limit
number_fits items i x count first limit lt is same few =
    let rest = class_names (top_levels (drop (i + 1) items)) in
    let parts : length (class_names (top_levels (drop i items))) ≡ length (item_class (top_level x)) + length rest = ap length (names_step items i x lt is) ∙ length-append (item_class (top_level x)) rest in
    omega (arith, parts, same, few)

-- what is numbered with the next ones is what is numbered with all
pub numbered : (y count next : ℕ) (old new : Option ℕ) (xs ys all : List ℕ) →
    new ≡ option_or old (position_from (λ z. z == y) count xs) → next ≡ count + length xs → all ≡ xs ++ ys →
    option_or new (position_from (λ z. z == y) next ys) ≡ option_or old (position_from (λ z. z == y) count all)
numbered y count next old new xs ys all h n a =
    let at = λ (m : ℕ) (zs : List ℕ). position_from (λ z. z == y) m zs in
    ap (λ o. option_or o (at next ys)) h ∙ or_else-assoc old (at count xs) (at next ys) ∙ ap (λ m. option_or old (option_or (at count xs) (at m ys))) n
    ∙ ap (option_or old) (sym (position-append (λ z. z == y) count xs ys)) ∙ ap (λ zs. option_or old (at count zs)) (sym a)
