-- The words of an image's values.
use Rattle.std.proofs.Common.{zero, suc, ◌%◌, ◌≡◌, ℕ, ◌+◌, ◌<◌, ◌^◌, List, [], ◌∷◌, length, map, Bool, true, false, ◌&&◌, nat_lt, nat_le, ◌==◌, None, Some, refl, sym, ap, ◌∙◌, arith, slice_get}
use Rattle.std.proofs.lemmas.List.{length-map}
use Rattle.thumb_code.specs.Map.{flash_end, in_flash, flash_word}
use Rattle.board_world.specs.Observations.{ByteList}
use Rattle.bank_model.specs.Texts.{is_text, text_limit}
use Rattle.flat_ir.specs.declared.ops.FlatCode.{FlatCode}
use Rattle.register_assign.specs.declared.places.Placed.{Placed}
use Rattle.sts_syntax.specs.TypeRules.{entry}
use Rattle.sts_meaning.specs.Values.{Value}
use Rattle.arena_values.proofs.Laws.{AreWords, is_small}
use Rattle.thumb_emit.specs.InFlash.{Addresses}
use Rattle.emit_simulation.specs.Ties.{bodies, IsText, IsCode, Means, IsImage}

second : (x y : Bool) → (x && y) ≡ true → y ≡ true
second true y e = e
second false y e = cc

first : (x y : Bool) → (x && y) ≡ true → x ≡ true
first true y e = refl
first false y e = e

is_below : (x y : ℕ) → nat_lt x y ≡ true → x < y
is_below x y e = grind arith

pub text_inside : (flash : List ℕ) (at : ℕ) → is_text flash at ≡ true → at < flash_end
text_inside flash at e = is_below at flash_end (first (in_flash at) (nat_le (flash_word flash at) text_limit && nat_le (at + 4 + flash_word flash at)
    flash_end) (second (at % 4 == 0) (in_flash at && (nat_le (flash_word flash at) text_limit && nat_le (at + 4 + flash_word flash at) flash_end)) e))

pub within_list : {X : Type 0} (xs : List X) (k : ℕ) → k < length xs → (x : X) × (slice_get xs k ≡ Some x)
within_list [] k l = absurd (omega arith)
within_list (x ∷ xs) zero l = (x, refl)
within_list (x ∷ xs) (suc k) l = within_list xs k (omega arith)

pub entry_is : {X : Type 0} (xs : List X) (k : ℕ) → entry xs k ≡ slice_get xs k
entry_is [] k = refl
entry_is (x ∷ xs) zero = refl
entry_is (x ∷ xs) (suc k) = entry_is xs k

pub none_some : (m : ℕ) → None ≡ Some m → ⊥
none_some m e = cc

module _ (C : FlatCode) (placed : List Placed) (flash : List ℕ) (a : Addresses) (texts : List ByteList) (image : IsImage C placed flash a texts) where
  -- each function has its place in flash
  pub function_inside : (f : ℕ) → f < length C.functions → (a.function f < flash_end + 1) × (a.function f % 4 ≡ 0)
  function_inside f l =
      let n = (image.shows).bodies_are in
      let b = within_list (bodies C placed flash a) f (omega arith) in
      let s = (image.shows).functions f b.0 b.1 in
      let i = s.inside in
      (omega arith, s.aligned)

  pub placed_inside : (f : ℕ) → f < length C.functions → (p : Placed) × (slice_get placed f ≡ Some p)
  placed_inside f l =
      let n = ap length image.functions in
      let m : length (map (λ (q : Placed). q.function) placed) ≡ length placed = length-map placed (λ (q : Placed). q.function) in
      within_list placed f (omega arith)

  pub are_words : AreWords (IsText C placed flash a) (IsCode C placed flash a)
  are_words = record {
    text_fits = λ t w i. (let s = (image.shows).named_texts t i.0 in let l = text_inside flash (a.text t) (s.2).sound in let e = i.1 in omega arith);
    text_there = λ t w i. (let s = (image.shows).named_texts t i.0 in let l = (s.2).positive in let e = i.1 in omega arith);
    text_one = λ t v w i j. i.1 ∙ sym j.1;
    text_apart = λ t u w i j. (image.shows).apart t u i.0 j.0 (sym i.1 ∙ j.1);
    code_fits = λ f w i. (let s = function_inside f i.0 in let l = s.0 in let e = i.1 in omega arith);
  }

  pub small : (v : Value) (w : ℕ) → Means C placed flash a v w → w < 2 ^ 32
  small v w i = is_small (IsText C placed flash a) (IsCode C placed flash a) are_words v w i
