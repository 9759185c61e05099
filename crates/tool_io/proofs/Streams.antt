-- What a stream behind a buffer has, as what a sink has taken, and where its lines end.
use Rattle.std.proofs.Common.{◌≡◌, ◌≢◌, ℕ, ◌+◌, zero, suc, length-append, List, [], ◌∷◌, ◌++◌, sym, ap, subst, append-nil, ◌∙◌, refl, arith, length, take, drop, ◌-◌}
use Rattle.std.specs.Prelude.{Option, Some, None, Result, Ok, Err, OnErr, slice_get}
use Rattle.std.specs.Io.KnownBytes.{Appends, Keeps}
use Rattle.std.proofs.lemmas.List.{take-append-drop}
use Rattle.buffered_stream.specs.Pieces.{AppendsFront, IsSuffix}
use Rattle.buffered_stream.specs.Lines.{EndsLine}
use Rattle.tool_io.specs.Putting.{Took, TookPart}

pub appends-took : (old new : Option (List ℕ)) (bytes : List ℕ) → Appends old new bytes → Took old new bytes
appends-took None new bytes a = record { told = λ had e. absurd (cc) }
appends-took (Some xs) None bytes a = absurd a
appends-took (Some xs) (Some ys) bytes a = record { told = λ had e. let same : xs ≡ had = cc in ap Some (a ∙ ap (λ x. x ++ bytes) same) }

-- the first bytes of a piece are a part of it
pub front-part : (old new : Option (List ℕ)) (piece : List ℕ) → AppendsFront old new piece → TookPart old new piece
front-part old new piece f =
    record {
      told = λ had e.
          let n = f.0 in
          let t : Took old new (take n piece) = appends-took old new (take n piece) f.1 in
          (take n piece, (drop n piece, take-append-drop n piece), t.told had e);
    }

pub nothing-ends : (text : List ℕ) → text ≡ [] → EndsLine text → ⊥
nothing-ends text e l = let h : EndsLine [] = subst (λ x. EndsLine x) e l in absurd (cc)
