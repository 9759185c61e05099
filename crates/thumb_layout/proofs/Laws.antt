-- The laws that other crates cite: what a piece does that a flash holds, and that a flash with laid code holds its pieces.
pub use Rattle.thumb_layout.proofs.Fitting.{cells_fit}
use Rattle.std.proofs.Common.{◌≡◌, ℕ, ◌+◌, ◌%◌, ◌<◌, ◌≤◌, List, true, false, Some, None, length, min, refl, ap, ◌∙◌, arith, slice_get}
use Rattle.thumb_code.specs.declared.instructions.Instr.{Instr}
use Rattle.thumb_code.specs.declared.register_file.Registers.{Registers}
use Rattle.thumb_code.specs.RegisterFile.{word}
use Rattle.thumb_code.specs.Memory.{Memory, execute_moving}
use Rattle.thumb_code.specs.Map.{is_base, flash_end, flash_word}
use Rattle.thumb_code.specs.Step.{fetched}
use Rattle.thumb_code.specs.Run.{Executor, over_moving}
use Rattle.thumb_layout.specs.declared.pieces.What.{What}
use Rattle.thumb_layout.specs.declared.pieces.Piece.{Piece}
use Rattle.thumb_layout.specs.declared.pieces.Piece.TheVariants.{Plain}
use Rattle.thumb_layout.specs.Soundness.{IsSound, HasWords}
use Rattle.thumb_layout.specs.Cells.{laid}
use Rattle.thumb_layout.specs.Holds.{Reads, cost, Means, IgnoresPc}
use Rattle.thumb_layout.specs.Flash.{HasCode, places}
use Rattle.thumb_layout.proofs.Meaning.{laid_means}
use Rattle.thumb_layout.proofs.Holding.{code_holds}
use Rattle.thumb_layout.proofs.Soundness.{sound_ignores}
pub use Rattle.thumb_layout.proofs.Meaning.{holds_opposite, silent_add, silent_one, laid_means, reaches_none, reaches_add, piece_goes, label_goes}
pub use Rattle.thumb_layout.proofs.Silent.{ComesSilently}
pub use Rattle.thumb_layout.proofs.Holding.{code_holds}
pub use Rattle.thumb_layout.proofs.Soundness.{sound_ignores}
pub use Rattle.thumb_layout.proofs.Fixing.{fixes_called, fixes_named, fixes_apart}
pub use Rattle.thumb_layout.proofs.Lengths.{bytes_most}
pub use Rattle.thumb_layout.proofs.Emitting.{laid_long}

-- A memory that is told where SP goes reads a flash, where it goes nowhere at its own SP and answers the loads of flash.
pub reads_moving : {S : Type 0} (m : Memory S) (move : S → ℕ → S) (flash : List ℕ) (At : ℕ → S → Type 0)
    → ((sp : ℕ) (t : S) → At sp t → m.has_sp t sp ≡ true)
    → ((sp : ℕ) (t : S) → At sp t → move t sp ≡ t)
    → ((sp a : ℕ) (t : S) → At sp t → a < flash_end → a % 4 ≡ 0 → m.fault t false (record { at = a; bytes = 4 }) ≡ None)
    → ((sp a : ℕ) (t : S) → At sp t → a < flash_end → a % 4 ≡ 0 → m.load t (record { at = a; bytes = 4 }) ≡ (flash_word flash a, t))
    → Reads (over_moving m move) flash At
reads_moving m move flash At has stays fault load = record {
  same = λ s s' t e h. ap (λ n. execute_moving m move t n e) h;
  goes = λ next s t h. (
      let a : min s.sp s.sp ≡ s.sp = omega arith in
      let b = has s.sp t h in
      let c = stays s.sp t h in
      rw b (rw a (rw c (rw c refl))));
  loads = λ next rd a s t h inside whole. (
      let x : min s.sp s.sp ≡ s.sp = omega arith in
      let y = has s.sp t h in
      let z = stays s.sp t h in
      let u = fault s.sp (word a) t h inside whole in
      let w = load s.sp (word a) t h inside whole in
      rw y (rw x (rw z (rw u (rw w (rw z refl))))));
}

-- A piece that stands alone does the same wherever it stands, where pieces are sound.
pub pieces_ignore : (xs : List Piece) → IsSound xs → (i : ℕ) (x : Piece) → slice_get xs i ≡ Some x → (y : Instr) → x ≡ Plain y → IgnoresPc y
pieces_ignore xs s i x e y p = let f = s.each i (Plain y) (e ∙ ap (λ q. Some q) p) in sound_ignores y f.0 f.1

-- Laid code means its pieces: where a flash has it, over whatever memory reads that flash, each piece does its effect.
pub laid_code_means : {S : Type 0} (over : Executor S) (flash : List ℕ) (At : ℕ → S → Type 0) → Reads over flash At → (base b : ℕ) (entry : ℕ → ℕ) (word_of : What → ℕ) (xs : List Piece) → IsSound xs → HasWords xs
    → is_base b ≡ true → base % 4 ≡ 0 → base + length (laid xs).bytes ≤ flash_end → HasCode flash base entry word_of (laid xs)
    → (i : ℕ) (x : Piece) → slice_get xs i ≡ Some x → 0 < cost x → (s : Registers) (t : S) → s.pc ≡ (places base entry word_of xs).at i → At s.sp t → Means over (fetched flash b) (places base entry word_of xs) i x s t
laid_code_means over flash At r base b entry word_of xs s w hb four room h i x e l q t p a =
    laid_means over flash At r (fetched flash b) (places base entry word_of xs) xs (code_holds flash base b entry word_of xs s w hb four room h) i x e (pieces_ignore xs s i x e) l q t p a
