-- Texts in flash, byte by byte.
use Rattle.std.proofs.Common.{◌≡◌, ◌≢◌, ℕ, zero, suc, ◌+◌, ◌<◌, ◌≤◌, ◌==◌, pos, negsuc, true, false, nat_lt, List, length, slice_index, refl, sym, ap, ◌∙◌, subst, arith}
use Rattle.std.proofs.lemmas.Bool.Decides.{nat_tests}
use Rattle.std.specs.Int.{cast_unsigned, w32}
use Rattle.thumb_code.specs.RegisterFile.{put_low}
use Rattle.thumb_code.specs.Map.{flash_byte, flash_word}
use Rattle.board_world.specs.Font.{glyph_of}
use Rattle.bank_model.specs.Texts.{is_text, flash_bytes, text_at, glyph_at}
use Rattle.bank_model.specs.Standing.{fiber_on}
use Rattle.bank_model.specs.AllServices.{service, word_argument}
use Rattle.fiber_runtime.specs.State.{State}
use Rattle.board_run.specs.declared.engine.Engine.{Engine}
use Rattle.board_outside.specs.declared.output.Output.TheVariants.{Nothing}
use Rattle.board_run.specs.declared.engine.Served.TheVariants.{Goes}
use Rattle.board_run.specs.Serving.{IsServed}
use Rattle.board_run.proofs.AskServices.{answered_by, goes_back}

length_bytes : (flash : List ℕ) (n at : ℕ) → length (flash_bytes flash n at) ≡ n
length_bytes flash zero at = refl
length_bytes flash (suc n) at = ap suc (length_bytes flash n (at + 1))

byte_of : (flash : List ℕ) (n at k : ℕ) → k < n → slice_index (flash_bytes flash n at) k ≡ flash_byte flash (at + k)
byte_of flash zero at k l = absurd (omega (arith, l))
byte_of flash (suc n) at zero l = (let e : at ≡ at + zero = omega arith in ap (flash_byte flash) e)
byte_of flash (suc n) at (suc k) l = byte_of flash n (at + 1) k (omega (arith, l)) ∙ (let e : at + 1 + k ≡ at + suc k = omega arith in ap (flash_byte flash) e)

pub glyph_in : (flash : List ℕ) (at place : ℕ) → place < flash_word flash at → glyph_at (text_at flash at) place ≡ pos (glyph_of (flash_byte flash (at + 4 + place)))
glyph_in flash at place l =
    let n = length_bytes flash (flash_word flash at) (at + 4) in
    let t : nat_lt place (length (text_at flash at)) ≡ true = (let k : place < length (text_at flash at) = omega (arith, l, n) in grind (arith, nat_tests, k)) in
    rw t (ap (λ b. pos (glyph_of b)) (byte_of flash (flash_word flash at) (at + 4) place l))

pub glyph_past : (flash : List ℕ) (at place : ℕ) → flash_word flash at ≤ place → glyph_at (text_at flash at) place ≡ negsuc 0
glyph_past flash at place l =
    let n = length_bytes flash (flash_word flash at) (at + 4) in
    let t : nat_lt place (length (text_at flash at)) ≡ false = (let k : length (text_at flash at) ≤ place = omega (arith, l, n) in grind (arith, nat_tests, k)) in
    rw t refl

pub serve_text_glyph : (e : Engine) (runtime : State) (word : ℕ) (at : ℕ) → word_argument (fiber_on e.runtime.machine) 0 ≢ 0 → is_text e.runtime.machine.memory.flash (word_argument (fiber_on e.runtime.machine) 0) ≡ true
    → word ≡ cast_unsigned w32 (glyph_at (text_at e.runtime.machine.memory.flash (word_argument (fiber_on e.runtime.machine) 0)) (word_argument (fiber_on e.runtime.machine) 1))
    → runtime ≡ record e.runtime { machine = record e.runtime.machine { registers = put_low e.runtime.machine.registers 0 word } }
    → IsServed (λ image. service image at 16) (Goes Nothing) e (record e { runtime = runtime })
serve_text_glyph e runtime word at some text z is = λ image t runs w h.
    let a = word_argument (fiber_on e.runtime.machine) 0 in
    let p = word_argument (fiber_on e.runtime.machine) 1 in
    let n : (a == 0) ≡ false = grind (arith, nat_tests, some) in
    let here : is_text image a ≡ true = subst (λ f. is_text f a ≡ true) h.flash text in
    let shows : cast_unsigned w32 (glyph_at (text_at image a) p) ≡ word = sym (z ∙ ap (λ f. cast_unsigned w32 (glyph_at (text_at f a) p)) h.flash) in
    rw (n, here) (answered_by e runtime word is image t runs w h _ (goes_back e image t runs w h word (glyph_at (text_at image a) p) shows))
