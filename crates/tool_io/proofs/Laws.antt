-- Puts after one another.
use Rattle.std.proofs.Common.{◌≡◌, ◌≤◌, ℕ, List, [], ◌++◌, sym, ap, append-nil, ◌∙◌, append_assoc, arith, subst}
use Rattle.std.specs.Prelude.{Option, Some, Result, Ok, Err}
use Rattle.sts_base.specs.Faults.{Rose}
use Rattle.tool_io.specs.Putting.{Took, TookPart, Puts}

pub took-nothing : (a : Option (List ℕ)) → Took a a []
took-nothing a = record { told = λ had e. e ∙ ap Some (sym (append-nil had)) }

pub took-then : {a b c : Option (List ℕ)} (s t : List ℕ) → Took a b s → Took b c t → Took a c (s ++ t)
took-then s t p q = record { told = λ had e. q.told (had ++ s) (p.told had e) ∙ ap Some (append_assoc had s t) }

-- all of the first bytes were taken, and then a part of the next
pub part-then : {a b c : Option (List ℕ)} (s t : List ℕ) → Took a b s → TookPart b c t → TookPart a c (s ++ t)
part-then s t p q =
    record {
      told = λ had e.
          let r = q.told (had ++ s) (p.told had e) in
          (s ++ r.0, (r.1.0, append_assoc s r.0 r.1.0 ∙ ap (λ x. s ++ x) r.1.1), r.2 ∙ ap Some (append_assoc had s r.0));
    }

-- a part of the first bytes is a part of more
pub part-more : {a b : Option (List ℕ)} (s t : List ℕ) → TookPart a b s → TookPart a b (s ++ t)
part-more s t p =
    record {
      told = λ had e.
          let r = p.told had e in
          (r.0, (r.1.0 ++ t, sym (append_assoc r.0 r.1.0 t) ∙ ap (λ x. x ++ t) r.1.1), r.2);
    }

-- all of the bytes are a part of them
pub part-whole : {a b : Option (List ℕ)} (s : List ℕ) → Took a b s → TookPart a b s
part-whole s p = record { told = λ had e. (s, ([], append-nil s), p.told had e) }

pub part-nothing : (a : Option (List ℕ)) (s : List ℕ) → TookPart a a s
part-nothing a s = part-more [] s (part-whole [] (took-nothing a))

-- a count that rose later rose
pub rose-before : (a b c : ℕ) → a ≤ b → Rose b c → Rose a c
rose-before a b c h r = omega arith

-- a count that rose before it stayed or rose again has risen
pub rose-after : (a b c : ℕ) → Rose a b → b ≤ c → Rose a c
rose-after a b c r h = omega arith

pub puts-then : {T U E : Type 0} {a b c : Option (List ℕ)} {m n o : ℕ} (before : U) (r : Result T E) (s t : List ℕ)
    → Puts {T = U} {E = E} a b m n s (Ok before) → Puts b c n o t r → Puts a c m o (s ++ t) r
puts-then before (Ok x) s t p q = record { took = took-then s t p.took q.took; part = tt; later = omega (arith, p.later, q.later); failed = tt }
puts-then {T} {U} {E} {a} {b} {c} {m} {n} {o} before (Err e) s t p q =
    record { took = tt; part = part-then s t p.took q.part; later = omega (arith, p.later, q.later); failed = rose-before m n o p.later q.failed }

pub puts-more : {T U E : Type 0} {a b : Option (List ℕ)} {m n : ℕ} (e : E) (s t : List ℕ)
    → Puts {T = U} {E = E} a b m n s (Err e) → Puts {T = T} {E = E} a b m n (s ++ t) (Err e)
puts-more e s t p = record { took = tt; part = part-more s t p.part; later = p.later; failed = p.failed }

-- no put at all
pub puts-none : {E : Type 0} (a : Option (List ℕ)) (m : ℕ) → Puts {T = Unit {0}} {E = E} a a m m [] (Ok tt)
puts-none a m = record { took = took-nothing a; part = tt; later = omega arith; failed = tt }

-- puts of equal bytes
pub puts-as : {T E : Type 0} {a b : Option (List ℕ)} {m n : ℕ} (r : Result T E) (s t : List ℕ) → s ≡ t → Puts a b m n s r → Puts a b m n t r
puts-as {a} {b} {m} {n} r s t e p = subst (λ x. Puts a b m n x r) e p
