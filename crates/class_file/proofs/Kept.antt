-- What a class that is read keeps to.
use Rattle.std.proofs.Common.{◌≡◌, ℕ, ◌≤◌, Bool, true, false, ◌||◌, ◌==◌, nat_lt, Option, Some, None, IfSome, List, length, All, refl, subst, arith, codes}
use Rattle.std.proofs.lemmas.Bool.Decides.{nat_tests}
use Rattle.serde_json.specs.Data.{Data}
use Rattle.board_world.specs.Limits.{end_limit}
use Rattle.event_script.specs.Trees.{whole, has_members, list_of}
use Rattle.event_script.proofs.Laws.{only-some, whole-some, list-some}
use Rattle.class_file.specs.declared.class.Names.{Names}
use Rattle.class_file.specs.declared.class.Loss.{Loss}
use Rattle.class_file.specs.declared.class.ClassFile.{ClassFile}
use Rattle.class_file.specs.Limits.{board_limit, last_board, loss_limit}
use Rattle.class_file.specs.Form.{names_of, loss_with, loss_of, class_with, class_of}
use Rattle.class_file.specs.Verdict.{miscounts}
use Rattle.class_file.specs.Within.{IsSmall, IsWithinForm}

loss-with-some : (t a b : Option ℕ) → IfSome t (λ n. n ≤ end_limit) → IfSome a (λ n. n ≤ last_board) → IfSome b (λ n. n ≤ last_board) → IfSome (loss_with t a b) IsSmall
loss-with-some (Some t) (Some a) (Some b) p q r = (p, q, r)
loss-with-some (Some t) (Some a) None p q r = tt
loss-with-some (Some t) None b p q r = tt
loss-with-some None a b p q r = tt

loss-some : (d : Data) → IfSome (loss_of d) IsSmall
loss-some d =
    let at = whole end_limit (codes "at") d in
    let sender = whole last_board (codes "from") d in
    let hearer = whole last_board (codes "to") d in
    only-some IsSmall (has_members 3 d) (loss_with at sender hearer)
    (loss-with-some at sender hearer (whole-some end_limit (codes "at") d) (whole-some last_board (codes "from") d) (whole-some last_board (codes "to") d))

-- what the tree alone shows
abbrev Formed : ClassFile → Type 0
Formed c = (c.end ≤ end_limit) × All IsSmall c.lose

class-with-some : (t : Option ℕ) (bs : Option (List Names)) (ls : Option (List Loss)) → IfSome t (λ n. n ≤ end_limit) → IfSome ls (All IsSmall) → IfSome (class_with t bs ls) Formed
class-with-some (Some t) (Some bs) (Some ls) p q = (p, q)
class-with-some (Some t) (Some bs) None p q = tt
class-with-some (Some t) None ls p q = tt
class-with-some None bs ls p q = tt

class-some : (d : Data) → IfSome (class_of d) Formed
class-some d =
    let end = whole end_limit (codes "end") d in
    let boards = list_of names_of (codes "boards") d in
    let lose = list_of loss_of (codes "lose") d in
    only-some Formed (has_members 3 d) (class_with end boards lose)
    (class-with-some end boards lose (whole-some end_limit (codes "end") d) (list-some IsSmall loss_of loss-some (codes "lose") d))

counted : (a b c : Bool) (m n : ℕ) → (m == 0) ≡ a → nat_lt board_limit m ≡ b → nat_lt loss_limit n ≡ c → (a || (b || c)) ≡ false → (1 ≤ m) × (m ≤ board_limit) × (n ≤ loss_limit)
counted true b c m n e f g h = absurd (cc)
counted false true c m n e f g h = absurd (cc)
counted false false true m n e f g h = absurd (cc)
counted false false false m n e f g h = (grind (arith, nat_tests), grind (arith, nat_tests), grind (arith, nat_tests))

pub class-within : (d : Data) (c : ClassFile) → class_of d ≡ Some c → miscounts c ≡ false → IsWithinForm c
class-within d c form h =
    let formed : Formed c = (let all : IfSome (class_of d) Formed = class-some d in subst (λ (o : Option ClassFile). IfSome o Formed) form all) in
    let counts = counted (length c.boards == 0) (nat_lt board_limit (length c.boards)) (nat_lt loss_limit (length c.lose)) (length c.boards) (length c.lose) refl refl refl h in
    record { end = formed.0; some = counts.0; few = counts.1; losses = counts.2; small = formed.1 }
