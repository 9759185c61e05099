-- The readings with one more turn left, and lists with one more at the end.
use Rattle.std.proofs.Common.{◌≡◌, ℕ, zero, suc, ◌+◌, ◌-◌, ◌<◌, ◌==◌, List, [], ◌∷◌, ◌++◌, length, refl, ap, arith}
use Rattle.std.specs.Prelude.{if◌then◌else◌, Some}
use Rattle.sts_syntax.specs.declared.units.Member.{Member}
use Rattle.sts_syntax.specs.declared.units.Item.{Item}
use Rattle.sts_syntax.specs.Programs.{ClassMember, Program, class_member, class_members, top_level, top_levels}
use Rattle.sts_lexer.specs.declared.marks.Mark.TheVariants as m
use Rattle.sts_grammar.specs.Source.{Source, kind, is_mark}
use Rattle.sts_grammar.specs.Found.{◌>>=◌, when}
use Rattle.sts_grammar.specs.ReadExpressions.{Readers}
use Rattle.sts_grammar.specs.ReadUnits.{behind_modifier, read_named, read_members, read_part, is_finish, read_parts}

pub members_at : (s : Source) (readers : Readers) (n : ℕ) (all : List ClassMember) (i : ℕ) → 0 < n →
    read_members s readers n all i ≡ (if is_mark m.CloseBrace (kind s i) then Some (all, i + 1)
    else if is_mark m.Semicolon (kind s i) then read_members s readers (n - 1) all (i + 1)
    else (read_named s readers (behind_modifier s i) >>= λ a. read_members s readers (n - 1) (all ++ a.0 ∷ []) a.1))
unfolding read_members
members_at s readers zero all i h = absurd (omega arith)
members_at s readers (suc n) all i h = let e : suc n - 1 ≡ n = omega arith in rw e refl

pub parts_at : (s : Source) (room n : ℕ) (all : Program) (i : ℕ) → 0 < n →
    read_parts s room n all i ≡ (if is_finish (kind s i) then when (length s.tokens == i + 1) (Some all)
    else (read_part s room i (kind s i) >>= λ a. read_parts s room (n - 1) (all ++ a.0 ∷ []) a.1))
unfolding read_parts
parts_at s room zero all i h = absurd (omega arith)
parts_at s room (suc n) all i h = let e : suc n - 1 ≡ n = omega arith in rw e refl

pub members_put : (xs : List Member) (a : Member) → class_members (xs ++ a ∷ []) ≡ class_members xs ++ class_member a ∷ []
members_put [] a = refl
members_put (x ∷ xs) a = ap (λ rest. class_member x ∷ rest) (members_put xs a)

pub parts_put : (xs : List Item) (a : Item) → top_levels (xs ++ a ∷ []) ≡ top_levels xs ++ top_level a ∷ []
parts_put [] a = refl
parts_put (x ∷ xs) a = ap (λ rest. top_level x ∷ rest) (parts_put xs a)
