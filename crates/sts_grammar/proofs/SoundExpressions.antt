-- Expressions that are read are spelled, where what stands deeper is.
use Rattle.std.proofs.Common.{◌≡◌, ℕ, zero, suc, ◌+◌, ◌-◌, ◌<◌, ◌≤◌, refl, sym, ap, ◌∙◌, subst, arith, ltb-true, ltb-false}
use Rattle.std.specs.Prelude.{ℤ, Bool, true, false, not, ◌&&◌, nat_lt, if◌then◌else◌, Option, Some, None, length}
use Rattle.sts_lexer.specs.declared.marks.Mark.{Mark}
use Rattle.sts_lexer.specs.declared.marks.Mark.TheVariants as m
use Rattle.sts_lexer.specs.declared.token.TokenKind.{TokenKind}
use Rattle.sts_lexer.specs.declared.token.TokenKind.TheVariants as k
use Rattle.sts_syntax.specs.Trees.{Tree, Binary, Both, Either, Choice, Set, Bump, Member, Item, Call}
use Rattle.sts_syntax.specs.Nesting.{nesting, deepest_tree}
use Rattle.sts_grammar.specs.Source.{Source, kind, broken, place, IsMark, is_mark}
use Rattle.sts_grammar.specs.Operators.{infix_number, infix_level, bump_by, assignment}
use Rattle.sts_grammar.specs.Operands.{level, IsWrapped, IsOperand}
use Rattle.sts_grammar.specs.Ends.{is_bump, mark_binds, kind_binds, binds}
use Rattle.sts_grammar.specs.Spells.{IsBare}
use Rattle.sts_grammar.specs.Headings.{IsArrowBehind}
use Rattle.sts_grammar.specs.Found.{◌>>=◌, when, member_name_of}
use Rattle.sts_grammar.specs.ReadHeadings.{begins_arrow, is_arrow_behind}
use Rattle.sts_grammar.specs.ReadExpressions.{Readers, is_target, binds_before, read_listed, read_primary, read_operator, read_choice, read_further, read_behind, climb, opened, close_at, unwind, read_inside, read_operand}
use Rattle.sts_grammar.proofs.Tokens.{bind_ok, when_ok, some_is, moved, never, both_true, not_true, member_name_is, mark_is}
use Rattle.sts_grammar.proofs.Headings.{no_arrow_behind}
use Rattle.sts_grammar.proofs.SoundLists.{listed_ok}
use Rattle.sts_grammar.proofs.Operators.{infix_min, infix_max, binds_max, behind_bump_max, bump_is_bump, binds_operator, binds_assignment, binds_bump, unless_bound, operand_weak, target_is, target_operand}
use Rattle.sts_grammar.proofs.SoundPrimaries.{IsRead, AreSound, primary_ok}

-- What an expression that goes on with another is: it holds together as tightly as w, and the token behind it binds no more tightly.
abbrev IsGrown : Source → (upto room l from : ℕ) → Tree → ℕ → Type 0
IsGrown s upto room l from e j =
    (w : ℕ) × IsOperand s w e (IsBare s e) from j × (nesting e ≤ suc room) × (l ≤ w) × (binds_before s upto j ≤ w) × (1 ≤ binds_before s upto j → 2 ≤ w)

-- p times `(` from i on
abbrev Opens : Source → (p i : ℕ) → Type 0
Opens s p i = (n : ℕ) → n < p → IsMark s (i + n) m.OpenParenthesis

before_is : (s : Source) (upto i : ℕ) → 1 ≤ binds_before s upto i → binds_before s upto i ≡ binds s i
before_is s upto i h =
    let by : (b : Bool) → 1 ≤ (if b then binds s i else 0) → (if b then binds s i else 0) ≡ binds s i =
    λ b. elim b as (λ b. 1 ≤ (if b then binds s i else 0) → (if b then binds s i else 0) ≡ binds s i) [ true ↦ λ h. refl | false ↦ λ h. absurd (omega arith) ] in
    by (nat_lt i upto) h

opened_by : (s : Source) (n i : ℕ) (b : Bool) → (is_mark m.OpenParenthesis (kind s i) && not (begins_arrow s i)) ≡ b → Opens s (opened s n (i + 1)) (i + 1) → Opens s (if b then suc (opened s n (i + 1)) else 0) i
opened_by s n i true q h zero k_in =
    let e : i ≡ i + 0 = omega arith in
    subst (λ (x : ℕ). IsMark s x m.OpenParenthesis) e (mark_is m.OpenParenthesis (kind s i) (both_true (is_mark m.OpenParenthesis (kind s i)) (not (begins_arrow s i)) q).0)
opened_by s n i true q h (suc k) k_in =
    let e : (i + 1) + k ≡ i + suc k = omega arith in
    subst (λ (x : ℕ). IsMark s x m.OpenParenthesis) e (h k (omega arith))
opened_by s n i false q h k k_in = absurd (omega arith)

opened_ok : (s : Source) (n i : ℕ) → Opens s (opened s n i) i
unfolding opened
opened_ok s zero i = λ k k_in. absurd (omega arith)
opened_ok s (suc n) i = opened_by s n i (is_mark m.OpenParenthesis (kind s i) && not (begins_arrow s i)) refl (opened_ok s n (i + 1))

close_ok : (s : Source) (i j : ℕ) → close_at s i ≡ Some j → IsMark s i m.CloseParenthesis × (j ≡ i + 1) × ¬ (IsArrowBehind s j)
unfolding close_at
close_ok s i j h =
    let c = when_ok (is_mark m.CloseParenthesis (kind s i) && not (is_arrow_behind s (i + 1))) (Some (i + 1)) j h in
    let b = both_true (is_mark m.CloseParenthesis (kind s i)) (not (is_arrow_behind s (i + 1))) c.0 in
    let same = some_is (i + 1) j c.1 in
    (mark_is m.CloseParenthesis (kind s i) b.0, sym same, subst (λ (x : ℕ). ¬ (IsArrowBehind s x)) same (no_arrow_behind s (i + 1) (not_true (is_arrow_behind s (i + 1)) b.1)))

module _ (s : Source) (upto room : ℕ) (readers : Readers) (ok : AreSound s upto room readers) where
  one_ok : (i : ℕ) (e : Tree) (j : ℕ) → readers.expr 1 i ≡ Some (e, j) → IsOperand s 1 e (IsBare s e) i j × (nesting e ≤ room)
  one_ok i e j h = let r = ok.expr_ok 1 i e j h (omega arith) (omega arith) in (r.0, r.1)

  -- what holds as tightly as anything
  firm : (l from : ℕ) (e : Tree) (j : ℕ) → l ≤ 14 → IsBare s e from j → nesting e ≤ suc room → 14 ≤ level e → IsGrown s upto room l from e j
  firm l from e j le b n t = (14, (0, b, λ _. t), n, le, binds_max s upto j, λ _. omega arith)

  -- an assignment or a choice, which nothing goes on with
  loose : (l from : ℕ) (e : Tree) (j : ℕ) → l ≤ 1 → IsBare s e from j → nesting e ≤ suc room → 1 ≤ level e → binds_before s upto j < 1 → IsGrown s upto room l from e j
  loose l from e j le b n t stops = (1, (0, b, λ _. t), n, le, omega arith, λ (x : 1 ≤ binds_before s upto j). absurd (omega arith))

  infix_ok : (l w from : ℕ) (e : Tree) (i : ℕ) (mark : Mark) → IsMark s i mark → (before : TokenKind) (new_line : Bool) → (op : ℕ) (assigned : Option (Option ℕ)) (by : Option ℤ) → infix_number mark ≡ Some op → (e' : Tree) (j : ℕ) → read_operator readers (place s from) e i (Some op) assigned by ≡ Some (e', j) →
      1 ≤ l → l ≤ mark_binds before new_line mark → mark_binds before new_line mark ≤ w → nesting e ≤ room → IsOperand s w e (IsBare s e) from i → IsGrown s upto room l from e' j
  infix_ok l w from e i mark q before new_line op assigned by o e' j h one le bw nd a =
      let r = bind_ok (readers.expr (infix_level op + 1) (i + 1)) (λ b. Some (Binary (place s from) op e b.0, b.1)) (e', j) h in
      let same = binds_operator before new_line mark op o in
      let most = infix_max mark op o in
      let least = infix_min mark op o in
      let b = ok.expr_ok (infix_level op + 1) (i + 1) r.0.0 r.0.1 r.1 (omega arith) (omega arith) in
      let deep : nesting r.0.0 ≤ room = b.1 in
      let stops : binds_before s upto r.0.1 < infix_level op + 1 = b.2 in
      moved (λ (z : Tree × ℕ). IsGrown s upto room l from z.0 z.1) (Binary (place s from) op e r.0.0, r.0.1) (e', j) r.2 (
        infix_level op,
        (0, (i, mark, refl, operand_weak s (infix_level op) w e (IsBare s e) from i (omega arith) a, q, o, b.0), λ _. omega arith),
        omega arith,
        omega arith,
        omega arith,
        λ _. omega arith,
      )

  operator_ok : (l w from : ℕ) (e : Tree) (i : ℕ) (mark : Mark) → IsMark s i mark → (before : TokenKind) (op : Option ℕ) (assigned : Option (Option ℕ)) (by : Option ℤ) → infix_number mark ≡ op → assignment mark ≡ assigned → bump_by mark ≡ by →
      (e' : Tree) (j : ℕ) → read_operator readers (place s from) e i op assigned by ≡ Some (e', j) →
      1 ≤ l → l ≤ mark_binds before (broken s i) mark → mark_binds before (broken s i) mark ≤ w → nesting e ≤ room → IsOperand s w e (IsBare s e) from i → IsGrown s upto room l from e' j
  operator_ok l w from e i mark q before (Some op) assigned by po pa pb e' j h one le bw nd a =
      infix_ok l w from e i mark q before (broken s i) op assigned by po e' j h one le bw nd a
  operator_ok l w from e i mark q before None (Some op) by po pa pb e' j h one le bw nd a =
      let c = when_ok (is_target e) (readers.expr 1 (i + 1) >>= λ a. Some (Set (place s from) op e a.0, a.1)) (e', j) h in
      let r = bind_ok (readers.expr 1 (i + 1)) (λ a. Some (Set (place s from) op e a.0, a.1)) (e', j) c.1 in
      let same = binds_assignment before (broken s i) mark op po pa in
      let b = ok.expr_ok 1 (i + 1) r.0.0 r.0.1 r.1 (omega arith) (omega arith) in
      let deep : nesting r.0.0 ≤ room = b.1 in
      let target = target_is e c.0 in
      moved (λ (z : Tree × ℕ). IsGrown s upto room l from z.0 z.1) (Set (place s from) op e r.0.0, r.0.1) (e', j) r.2
      (loose l from (Set (place s from) op e r.0.0) r.0.1 (omega arith)
      (i, mark, refl, target, target_operand s 14 w e (IsBare s e) from i (omega arith) target a, q, pa, b.0) (omega arith) (omega arith) b.2)
  operator_ok l w from e i mark q before None None (Some by) po pa pb e' j h one le bw nd a =
      let c = when_ok (is_target e) (Some (Bump (place s from) e by true, i + 1)) (e', j) h in
      let same = binds_bump before (broken s i) mark by pb in
      let u = unless_bound (broken s i) l 13 w one (subst (λ (x : ℕ). l ≤ x) same le) (subst (λ (x : ℕ). x ≤ w) same bw) in
      let target = target_is e c.0 in
      let stops = behind_bump_max s upto i (i + 1) refl (ap is_bump q ∙ bump_is_bump mark by pb) in
      moved (λ (z : Tree × ℕ). IsGrown s upto room l from z.0 z.1) (Bump (place s from) e by true, i + 1) (e', j) c.1 (
        13,
        (0, (i, mark, refl, target, target_operand s 14 w e (IsBare s e) from i (omega arith) target a, q, pb, u.0, refl), λ _. omega arith),
        omega arith,
        u.2,
        stops,
        λ _. omega arith,
      )
  operator_ok l w from e i mark q before None None None po pa pb e' j h one le bw nd a = never (e', j) h

  choice_ok : (l w from : ℕ) (e : Tree) (i : ℕ) → IsMark s i m.Question → (e' : Tree) (j : ℕ) → read_choice s readers (place s from) e (i + 1) ≡ Some (e', j) → l ≤ 1 → 2 ≤ w → nesting e ≤ room → IsOperand s w e (IsBare s e) from i → IsGrown s upto room l from e' j
  choice_ok l w from e i q e' j h le two nd a =
      let r = bind_ok (readers.expr 1 (i + 1)) (λ a. when (is_mark m.Colon (kind s a.1)) (readers.expr 1 (a.1 + 1) >>= λ b. Some (Choice (place s from) e a.0 b.0, b.1))) (e', j) h in
      let c = when_ok (is_mark m.Colon (kind s r.0.1)) (readers.expr 1 (r.0.1 + 1) >>= λ b. Some (Choice (place s from) e r.0.0 b.0, b.1)) (e', j) r.2 in
      let v = bind_ok (readers.expr 1 (r.0.1 + 1)) (λ b. Some (Choice (place s from) e r.0.0 b.0, b.1)) (e', j) c.1 in
      let x = ok.expr_ok 1 (i + 1) r.0.0 r.0.1 r.1 (omega arith) (omega arith) in
      let y = ok.expr_ok 1 (r.0.1 + 1) v.0.0 v.0.1 v.1 (omega arith) (omega arith) in
      let x_deep : nesting r.0.0 ≤ room = x.1 in
      let y_deep : nesting v.0.0 ≤ room = y.1 in
      moved (λ (z : Tree × ℕ). IsGrown s upto room l from z.0 z.1) (Choice (place s from) e r.0.0 v.0.0, v.0.1) (e', j) v.2
      (loose l from (Choice (place s from) e r.0.0 v.0.0) v.0.1 le
      (i, r.0.1, refl, operand_weak s 2 w e (IsBare s e) from i two a, q, x.0, mark_is m.Colon (kind s r.0.1) c.0, y.0) (omega arith) (omega arith) y.2)

  further_ok : (l w from : ℕ) (e : Tree) (i : ℕ) (mark : Mark) → IsMark s i mark → (before : TokenKind) → (e' : Tree) (j : ℕ) → read_further s readers (place s from) e i mark ≡ Some (e', j) →
      1 ≤ l → l ≤ mark_binds before (broken s i) mark → mark_binds before (broken s i) mark ≤ w → 2 ≤ w → nesting e ≤ room → IsOperand s w e (IsBare s e) from i → IsGrown s upto room l from e' j
  further_ok l w from e i m.Dot q before e' j h one le bw two nd a =
      let r = bind_ok (member_name_of (kind s (i + 1))) (λ name. Some (Member (place s from) e name, i + 2)) (e', j) h in
      let u = unless_bound (is_bump before) l 14 w one le bw in
      moved (λ (z : Tree × ℕ). IsGrown s upto room l from z.0 z.1) (Member (place s from) e r.0, i + 2) (e', j) r.2
      (firm l from (Member (place s from) e r.0) (i + 2) u.2
      (i, refl, operand_weak s 14 w e (IsBare s e) from i u.1 a, q, member_name_is s (i + 1) (kind s (i + 1)) r.0 refl r.1, refl) (omega arith) (omega arith))
  further_ok l w from e i m.OpenBracket q before e' j h one le bw two nd a =
      let r = bind_ok (readers.expr 1 (i + 1)) (λ b. when (is_mark m.CloseBracket (kind s b.1)) (Some (Item (place s from) e b.0, b.1 + 1))) (e', j) h in
      let c = when_ok (is_mark m.CloseBracket (kind s r.0.1)) (Some (Item (place s from) e r.0.0, r.0.1 + 1)) (e', j) r.2 in
      let b = one_ok (i + 1) r.0.0 r.0.1 r.1 in
      let deep : nesting r.0.0 ≤ room = b.1 in
      let u = unless_bound (is_bump before) l 14 w one le bw in
      moved (λ (z : Tree × ℕ). IsGrown s upto room l from z.0 z.1) (Item (place s from) e r.0.0, r.0.1 + 1) (e', j) c.1
      (firm l from (Item (place s from) e r.0.0) (r.0.1 + 1) u.2
      (i, r.0.1, refl, operand_weak s 14 w e (IsBare s e) from i u.1 a, q, b.0, mark_is m.CloseBracket (kind s r.0.1) c.0, refl) (omega arith) (omega arith))
  further_ok l w from e i m.OpenParenthesis q before e' j h one le bw two nd a =
      let r = bind_ok (read_listed s false (readers.expr 1) (i + 1)) (λ a. Some (Call (place s from) e a.0, a.1)) (e', j) h in
      let b = listed_ok s room false (readers.expr 1) one_ok (i + 1) r.0.0 r.0.1 r.1 in
      let deep : deepest_tree r.0.0 ≤ room = b.1 in
      let u = unless_bound (is_bump before) l 14 w one le bw in
      moved (λ (z : Tree × ℕ). IsGrown s upto room l from z.0 z.1) (Call (place s from) e r.0.0, r.0.1) (e', j) r.2
      (firm l from (Call (place s from) e r.0.0) r.0.1 u.2
      (i, refl, operand_weak s 14 w e (IsBare s e) from i u.1 a, q, b.0) (omega arith) (omega arith))
  further_ok l w from e i m.Question q before e' j h one le bw two nd a = choice_ok l w from e i q e' j h le two nd a
  further_ok l w from e i m.BarBar q before e' j h one le bw two nd a =
      let r = bind_ok (readers.expr 3 (i + 1)) (λ b. Some (Either (place s from) e b.0, b.1)) (e', j) h in
      let b = ok.expr_ok 3 (i + 1) r.0.0 r.0.1 r.1 (omega arith) (omega arith) in
      let deep : nesting r.0.0 ≤ room = b.1 in
      let stops : binds_before s upto r.0.1 < 3 = b.2 in
      moved (λ (z : Tree × ℕ). IsGrown s upto room l from z.0 z.1) (Either (place s from) e r.0.0, r.0.1) (e', j) r.2
      (2, (0, (i, refl, operand_weak s 2 w e (IsBare s e) from i bw a, q, b.0), λ _. omega arith), omega arith, le, omega arith, λ _. omega arith)
  further_ok l w from e i m.AmpersandAmpersand q before e' j h one le bw two nd a =
      let r = bind_ok (readers.expr 4 (i + 1)) (λ b. Some (Both (place s from) e b.0, b.1)) (e', j) h in
      let b = ok.expr_ok 4 (i + 1) r.0.0 r.0.1 r.1 (omega arith) (omega arith) in
      let deep : nesting r.0.0 ≤ room = b.1 in
      let stops : binds_before s upto r.0.1 < 4 = b.2 in
      moved (λ (z : Tree × ℕ). IsGrown s upto room l from z.0 z.1) (Both (place s from) e r.0.0, r.0.1) (e', j) r.2
      (3, (0, (i, refl, operand_weak s 3 w e (IsBare s e) from i bw a, q, b.0), λ _. omega arith), omega arith, le, omega arith, λ _. omega arith)
  further_ok l w from e i mark q before e' j h one le bw two nd a =
      operator_ok l w from e i mark q before (infix_number mark) (assignment mark) (bump_by mark) refl refl refl e' j h one le bw nd a

  behind_ok : (l w from : ℕ) (e : Tree) (i : ℕ) (t : TokenKind) → kind s i ≡ t → (e' : Tree) (j : ℕ) → read_behind s readers (place s from) e i t ≡ Some (e', j) →
      1 ≤ l → l ≤ kind_binds (kind s (i - 1)) (broken s i) t → kind_binds (kind s (i - 1)) (broken s i) t ≤ w → 2 ≤ w → nesting e ≤ room → IsOperand s w e (IsBare s e) from i → IsGrown s upto room l from e' j
  behind_ok l w from e i (k.Mark mark) q e' j h one le bw two nd a = further_ok l w from e i mark q (kind s (i - 1)) e' j h one le bw two nd a
  behind_ok l w from e i _ q e' j h one le bw two nd a = never (e', j) h

  -- the recursive call of climb is passed in
  climb_by : (n l w from : ℕ) (e : Tree) (i : ℕ) (b c : Bool) → nat_lt (binds_before s upto i) l ≡ b → nat_lt room (nesting e) ≡ c → (e' : Tree) (j : ℕ) →
      (if b then Some (e, i) else (if c then None else (read_behind s readers (place s from) e i (kind s i) >>= λ a. climb s upto room readers n l (place s from) a.0 a.1))) ≡ Some (e', j) →
      1 ≤ l → l ≤ w → (1 ≤ binds_before s upto i → 2 ≤ w) → binds_before s upto i ≤ w → nesting e ≤ suc room → IsOperand s w e (IsBare s e) from i →
      ((w : ℕ) (e : Tree) (i : ℕ) → climb s upto room readers n l (place s from) e i ≡ Some (e', j) → l ≤ w → (1 ≤ binds_before s upto i → 2 ≤ w) → binds_before s upto i ≤ w → nesting e ≤ suc room → IsOperand s w e (IsBare s e) from i → IsRead s upto (suc room) l e' from j) →
      IsRead s upto (suc room) l e' from j
  climb_by n l w from e i true c pb pc e' j h one le two bw nd a ih =
      moved (λ (z : Tree × ℕ). IsRead s upto (suc room) l z.0 from z.1) (e, i) (e', j) h (operand_weak s l w e (IsBare s e) from i le a, nd, ltb-true (binds_before s upto i) l pb)
  climb_by n l w from e i false true pb pc e' j h one le two bw nd a ih = never (e', j) h
  climb_by n l w from e i false false pb pc e' j h one le two bw nd a ih =
      let r = bind_ok (read_behind s readers (place s from) e i (kind s i)) (λ a. climb s upto room readers n l (place s from) a.0 a.1) (e', j) h in
      let most : l ≤ binds_before s upto i = ltb-false (binds_before s upto i) l pb in
      let same : binds_before s upto i ≡ binds s i = before_is s upto i (omega arith) in
      let two_at : 2 ≤ w = two (omega arith) in
      let g = behind_ok l w from e i (kind s i) refl r.0.0 r.0.1 r.1 one (subst (λ (x : ℕ). l ≤ x) same most) (subst (λ (x : ℕ). x ≤ w) same bw) two_at (ltb-false room (nesting e) pc) a in
      ih g.0 r.0.0 r.0.1 r.2 g.3 g.5 g.4 g.2 g.1

  climb_ok : (n l w from : ℕ) (e : Tree) (i : ℕ) (e' : Tree) (j : ℕ) → climb s upto room readers n l (place s from) e i ≡ Some (e', j) → 1 ≤ l → l ≤ w → (1 ≤ binds_before s upto i → 2 ≤ w) → binds_before s upto i ≤ w → nesting e ≤ suc room → IsOperand s w e (IsBare s e) from i → IsRead s upto (suc room) l e' from j
  unfolding climb
  climb_ok zero l w from e i e' j h one le two bw nd a = never (e', j) h
  climb_ok (suc n) l w from e i e' j h one le two bw nd a =
      climb_by n l w from e i (nat_lt (binds_before s upto i) l) (nat_lt room (nesting e)) refl refl e' j h one le two bw nd a
      (λ w e i h le two bw nd a. climb_ok n l w from e i e' j h one le two bw nd a)

  unwind_ok : (p l w from : ℕ) (e : Tree) (i : ℕ) (e' : Tree) (j : ℕ) → unwind s upto room readers p l from e i ≡ Some (e', j) → Opens s p from → 1 ≤ l → l ≤ 12 → l ≤ w → 2 ≤ w → binds_before s upto i ≤ w → nesting e ≤ suc room → IsOperand s w e (IsBare s e) (from + p) i → IsRead s upto (suc room) l e' from j
  unfolding unwind
  unwind_ok zero l w from e i e' j h o one most le two bw nd a =
      climb_ok (suc room) l w from e i e' j h one le (λ _. two) bw nd (subst (λ (x : ℕ). IsOperand s w e (IsBare s e) x i) (omega arith) a)
  unwind_ok (suc p) l w from e i e' j h o one most le two bw nd a =
      let r = bind_ok (climb s upto room readers (suc room) 1 (place s (from + suc p)) e i) (λ a. close_at s a.1 >>= λ j. unwind s upto room readers p l from a.0 j) (e', j) h in
      let c = bind_ok (close_at s r.0.1) (λ j. unwind s upto room readers p l from r.0.0 j) (e', j) r.2 in
      let inner = climb_ok (suc room) 1 w (from + suc p) e i r.0.0 r.0.1 r.1 (omega arith) (omega arith) (λ _. two) bw nd a in
      let close = close_ok s r.0.1 c.0 c.1 in
      let at : from + suc p ≡ (from + p) + 1 = omega arith in
      let wrapped : IsWrapped s inner.0.0 (IsBare s r.0.0) ((from + p) + 1) r.0.1 = subst (λ (x : ℕ). IsWrapped s inner.0.0 (IsBare s r.0.0) x r.0.1) at inner.0.1 in
      unwind_ok p l 14 from r.0.0 c.0 e' j c.2 (λ n n_in. o n (omega arith)) one most (omega arith) (omega arith) (binds_max s upto c.0) inner.1
      (suc inner.0.0, (r.0.1, o p (omega arith), wrapped, close.0, close.1, close.2), λ z. absurd (omega (arith, z)))

  inside_ok : (p l from : ℕ) (e : Tree) (j : ℕ) → read_inside s upto room readers p l from ≡ Some (e, j) → Opens s p from → 1 ≤ l → l ≤ 12 → IsRead s upto (suc room) l e from j
  unfolding read_inside
  inside_ok p l from e j h o one most =
      let r = bind_ok (read_primary s readers (from + p) (kind s (from + p))) (λ a. unwind s upto room readers p l from a.0 a.1) (e, j) h in
      let a = primary_ok s upto room readers ok (from + p) (kind s (from + p)) refl r.0.0 r.0.1 r.1 in
      let w : ℕ = a.2.0 in
      let least : 12 ≤ w = a.2.1 in
      unwind_ok p l w from r.0.0 r.0.1 e j r.2 o one most (omega arith) (omega arith) a.2.3 a.1 (0, a.0, λ _. a.2.2)

  -- an operand of at least level l
  pub operand_ok : (l i : ℕ) (e : Tree) (j : ℕ) → read_operand s upto room readers l i ≡ Some (e, j) → 1 ≤ l → l ≤ 12 → IsRead s upto (suc room) l e i j
  unfolding read_operand
  operand_ok l i e j h one most = inside_ok (opened s (length s.tokens) i) l i e j h (opened_ok s (length s.tokens) i) one most
