-- The routine's pieces can be laid.
use Rattle.std.proofs.Common.{◌≡◌, ℕ, zero, suc, List, [], ◌∷◌, Some, refl, subst, lit<, lit≤, slice_get, length, ap}
use Rattle.std.specs.List.{AllByRecursion}
use Rattle.thumb_layout.specs.declared.pieces.Piece.{Piece}
use Rattle.thumb_layout.specs.declared.pieces.Piece.TheVariants.{Go}
use Rattle.thumb_layout.specs.Soundness.{IsSound, IsSoundPiece, times}
use Rattle.thumb_layout.specs.Cells.{laid}
use Rattle.thumb_switch.specs.Routine.{routine_pieces, routine_bytes}

all_at : {X : Type 0} (P : X → Type 0) (xs : List X) → AllByRecursion P xs → (k : ℕ) (x : X) → slice_get xs k ≡ Some x → P x
all_at P [] a k x g = absurd (cc)
all_at P (y ∷ xs) a zero x g = let e : y ≡ x = cc in subst P e a.0
all_at P (y ∷ xs) a (suc k) x g = all_at P xs a.1 k x g

sound : AllByRecursion IsSoundPiece routine_pieces
sound = ((
  (((lit< tt, (lit< tt, (lit< tt, tt))), tt), refl),
  (
    lit≤ tt,
    (
      tt,
      (
        (((lit< tt, (lit< tt, (lit< tt, tt))), lit< tt), refl),
        (
          (((lit< tt, (lit< tt, (lit< tt, tt))), (lit< tt, λ e. refl)), refl),
          (
            (((lit< tt, (lit< tt, (lit< tt, tt))), tt), refl),
            (
              lit≤ tt,
              (
                tt,
                (
                  (((lit< tt, (lit< tt, (lit< tt, tt))), tt), refl),
                  (
                    lit≤ tt,
                    (
                      tt,
                      (
                        (((lit< tt, (lit< tt, (lit< tt, tt))), lit< tt), refl),
                        (
                          (((lit< tt, (lit< tt, (lit< tt, tt))), (lit< tt, λ e. refl)), refl),
                          (
                            (((lit< tt, (lit< tt, (lit< tt, tt))), tt), refl),
                            (
                              lit≤ tt,
                              (tt, ((((lit< tt, (lit< tt, (lit< tt, tt))), lit< tt), refl), tt)),
                            ),
                          ),
                        ),
                      ),
                    ),
                  ),
                ),
              ),
            ),
          ),
        ),
      ),
    ),
  ),
))

abbrev IsOnce : Piece → Type 0
IsOnce (Go cond label) = times label routine_pieces ≡ 1
IsOnce _ = Unit {0}

once : AllByRecursion IsOnce routine_pieces
once = (tt, (refl, (tt, (tt, (tt, (tt, (refl, (tt, (tt, (refl, (tt, (tt, (tt, (tt, (refl, (tt, (tt, tt)))))))))))))))))

pub routine_sound : IsSound routine_pieces
routine_sound = record {
  each = λ i x e. all_at IsSoundPiece routine_pieces sound i x e;
  labels = λ i cond label e. all_at IsOnce routine_pieces once i (Go cond label) e;
}

-- their layout is the routine's bytes
pub routine_laid : (laid routine_pieces).bytes ≡ routine_bytes
routine_laid = refl

pub routine_short : (bytes : List ℕ) → bytes ≡ routine_bytes → length bytes ≡ 26
routine_short bytes e = ap length e
