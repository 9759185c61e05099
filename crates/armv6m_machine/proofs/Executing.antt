-- What executing an effect comes to, from its parts.
use Rattle.std.proofs.Common.{◌≡◌, map, true, false, Some, None, refl, inl, inr}
use Rattle.thumb_code.specs.declared.register_file.Registers.{Registers}
use Rattle.thumb_code.specs.Forms.{Effect, Goes, Stops}
use Rattle.thumb_code.specs.Memory.{Memory, first_fault, load_all, store_all}
use Rattle.armv6m_machine.specs.declared.faults.Fault.{Fault as FaultKind}
use Rattle.armv6m_machine.specs.declared.faults.Fault.TheVariants.{StackRange}
use Rattle.armv6m_machine.specs.declared.faults.Turn.TheVariants.{Went, Fault}
use Rattle.armv6m_machine.specs.Answers.{number_of}
use Rattle.armv6m_machine.specs.Steps.{Does}

-- It goes on.
pub goes_on : {S : Type 0} (m : Memory S) (t : S) (e : Effect) (old new r : Registers) (mem : S) → m.has_sp t e.sp ≡ true → first_fault m t false e.loads ≡ None
    → first_fault m t true (map (λ p. p.0) e.stores) ≡ None → e.after (load_all m t e.loads).0 ≡ Goes r → new ≡ record r { sp = e.sp }
    → mem ≡ store_all m (load_all m t e.loads).1 e.stores → Does m t e Went old new mem
goes_on m t e old new r mem sp ls ss o n k = rw (sp, ls, ss, o) (refl, n, k)

-- The SP that it leaves is out of range.
pub out_of_range : {S : Type 0} (m : Memory S) (t : S) (e : Effect) (old : Registers) → m.has_sp t e.sp ≡ false → Does m t e (Fault StackRange old.pc) old old t
out_of_range m t e old sp = rw sp (refl, refl, refl, inl refl)

-- A load is a fault.
pub load_fails : {S : Type 0} (m : Memory S) (t : S) (e : Effect) (old : Registers) (f : FaultKind) → m.has_sp t e.sp ≡ true → first_fault m t false e.loads ≡ Some (number_of f)
    → Does m t e (Fault f old.pc) old old t
load_fails m t e old f sp ls = rw (sp, ls) (refl, refl, refl, inl refl)

-- A store is a fault.
pub store_fails : {S : Type 0} (m : Memory S) (t : S) (e : Effect) (old : Registers) (f : FaultKind) → m.has_sp t e.sp ≡ true → first_fault m t false e.loads ≡ None
    → first_fault m t true (map (λ p. p.0) e.stores) ≡ Some (number_of f) → Does m t e (Fault f old.pc) old old t
store_fails m t e old f sp ls ss = rw (sp, ls, ss) (refl, refl, refl, inl refl)

-- The instruction's own fault, which what was loaded may tell.
pub fails_itself : {S : Type 0} (m : Memory S) (t : S) (e : Effect) (old : Registers) (f : FaultKind) (mem : S) → m.has_sp t e.sp ≡ true → first_fault m t false e.loads ≡ None
    → first_fault m t true (map (λ p. p.0) e.stores) ≡ None → e.after (load_all m t e.loads).0 ≡ Stops (number_of f) → mem ≡ (load_all m t e.loads).1
    → Does m t e (Fault f old.pc) old old mem
fails_itself m t e old f mem sp ls ss o k = rw (sp, ls, ss, o) (refl, refl, refl, inr k)
