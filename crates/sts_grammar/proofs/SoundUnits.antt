-- What is read of a whole text is spelled by it.
use Rattle.std.proofs.Common.{◌≡◌, ℕ, zero, suc, ◌+◌, ◌-◌, ◌<◌, ◌≤◌, ◌++◌, List, [], ◌∷◌, length, refl, sym, ap, ◌∙◌, subst, arith, inl, inr}
use Rattle.std.specs.Prelude.{Bool, true, false, ◌&&◌, ◌==◌, if◌then◌else◌, Option, Some, None, ◌⊎◌}
use Rattle.std.proofs.lemmas.Bool.{cases_lt, eqb-true}
use Rattle.std.proofs.lemmas.List.{append-nil, append_assoc}
use Rattle.sts_lexer.specs.declared.marks.Mark.TheVariants as m
use Rattle.sts_lexer.specs.declared.words.Word.TheVariants as w
use Rattle.sts_lexer.specs.declared.token.TokenKind.{TokenKind}
use Rattle.sts_lexer.specs.declared.token.TokenKind.TheVariants as k
use Rattle.sts_syntax.specs.Annotations.{Annotation}
use Rattle.sts_syntax.specs.Trees.{Parameter, OptionalTree, Statement, Statements, Declaration, Declare, Routine, Does}
use Rattle.sts_syntax.specs.Programs.{ClassMember, Field, Method, Constructor, TopLevel, Class, Function, Main, Program}
use Rattle.sts_syntax.specs.Nesting.{statement_nesting, deepest_statement, optional_nesting, member_nesting, deepest_member, top_level_nesting, deepest_top_level}
use Rattle.sts_grammar.specs.Limits.{part_nesting}
use Rattle.sts_grammar.specs.Source.{Source, kind, place, IsMark, IsWord, IsMemberName, is_mark, is_word}
use Rattle.sts_grammar.specs.Headings.{HasType, HasResult, AreParameters}
use Rattle.sts_grammar.specs.Operands.{IsRoutine}
use Rattle.sts_grammar.specs.Ends.{declaration_continues, Ends}
use Rattle.sts_grammar.specs.Spells.{IsInitialised, IsStatement, InBlock}
use Rattle.sts_grammar.specs.Units.{IsProgram, is_modifier, HasModifier, field_continues, IsConstructor, IsMember, AreSemicolons, AreMembers, HasBase, IsPart, AreParts}
use Rattle.sts_grammar.specs.Found.{◌>>=◌, when, name_of, member_name_of}
use Rattle.sts_grammar.specs.ReadHeadings.{read_heading, read_parameters, read_optional_type, is_found}
use Rattle.sts_grammar.specs.ReadExpressions.{read_block}
use Rattle.sts_grammar.specs.ReadStatements.{read_end, read_initialiser}
use Rattle.sts_grammar.specs.Reading.{expression, statement, statement_readers}
use Rattle.sts_grammar.specs.ReadUnits.{behind_modifier, is_constructor, read_routine, read_maker, read_field_end, read_field, read_method, read_behind_name, read_named, read_members, read_base, read_class, read_function, read_main, read_part, is_finish, read_parts, read_program}
use Rattle.sts_grammar.proofs.Tokens.{bind_ok, when_ok, some_is, name_is, mark_is, word_is}
use Rattle.sts_grammar.proofs.UnitTokens.{member_name_is, finish_is, constructor_is, constructor_not, modifier_true, modifier_false}
use Rattle.sts_grammar.proofs.FieldEnds.{field_stops}

-- what is known of the readers below
pub record SoundBelow (s : Source) : Type 0 where
  pub statement_ok : (room : ℕ) (f l : Bool) (i : ℕ) (a : Statement) (j : ℕ) → statement s room f l i ≡ Some (a, j) → IsStatement s f l a i j × (statement_nesting a ≤ room)
  pub block_ok : (room : ℕ) (i : ℕ) (all : Statements) (j : ℕ) → read_block s (statement s room true false) i ≡ Some (all, j) → IsMark s i m.OpenBrace × InBlock s true false all (i + 1) j × (deepest_statement all ≤ room)
  pub heading_ok : (i : ℕ) (h : List Parameter × Option Annotation) (j : ℕ) → read_heading s i ≡ Some (h, j) → (n : ℕ) × IsMark s i m.OpenParenthesis × AreParameters s h.0 (i + 1) n × HasResult s h.1 n j
  pub parameters_ok : (i : ℕ) (params : List Parameter) (j : ℕ) → read_parameters s i ≡ Some (params, j) → AreParameters s params i j
  pub type_ok : (i : ℕ) (shape : Option Annotation) (j : ℕ) → read_optional_type s i ≡ Some (shape, j) → HasType s shape i j × (shape ≡ None → is_mark m.Colon (kind s j) ≡ false)
  pub initialiser_ok : (room i : ℕ) (first : OptionalTree) (j : ℕ) → read_initialiser (expression s (length s.tokens) room 1) false (is_mark m.Assign (kind s i)) i ≡ Some (first, j) → IsInitialised s false first i j × (optional_nesting first ≤ room)
      × ((at name : ℕ) (shape : Option Annotation) → (shape ≡ None → is_mark m.Colon (kind s i) ≡ false) → is_mark m.Comma (kind s j) ≡ false → declaration_continues s (Declare at name shape first) j ≡ false)
  pub end_ok : (i j : ℕ) → read_end s i ≡ Some j → Ends s false i j

module _ (s : Source) (below : SoundBelow s) where
  open below use {statement_ok, block_ok, heading_ok, parameters_ok, type_ok, initialiser_ok, end_ok}

  routine_ok : (room at i : ℕ) (r : Routine) (j : ℕ) → read_routine s (statement_readers s room) at i ≡ Some (r, j)
      → (params : List Parameter) × (gives : Option Annotation) × (all : Statements) × (r ≡ Does at params gives all false)
      × IsRoutine s params gives false (InBlock s true false all) i j × (deepest_statement all ≤ room)
  unfolding read_routine
  routine_ok room at i r j h =
      let a = bind_ok (read_heading s i) (λ h. read_block s (statement s room true false) h.1 >>= λ b. Some (Does at h.0.0 h.0.1 b.0 false, b.1)) (r, j) h in
      let b = bind_ok (read_block s (statement s room true false) a.0.1) (λ b. Some (Does at a.0.0.0 a.0.0.1 b.0 false, b.1)) (r, j) a.2 in
      let head = heading_ok i a.0.0 a.0.1 a.1 in
      let held = block_ok room a.0.1 b.0.0 b.0.1 b.1 in
      let same = some_is (Does at a.0.0.0 a.0.0.1 b.0.0 false, b.0.1) (r, j) b.2 in (
        a.0.0.0,
        a.0.0.1,
        b.0.0,
        sym (ap (λ (z : Routine × ℕ). z.0) same),
        subst (λ z. IsRoutine s a.0.0.0 a.0.0.1 false (InBlock s true false b.0.0) i z) (ap (λ (z : Routine × ℕ). z.1) same)
            (head.0, a.0.1, a.0.1, head.1, head.2, head.3, refl, held.0, held.1),
        held.2,
      )

  maker_ok : (room at i : ℕ) (x : ClassMember) (j : ℕ) → read_maker s (statement_readers s room) at i ≡ Some (x, j)
      → (params : List Parameter) × (all : Statements) × (x ≡ Constructor (Does at params None all false))
      × IsRoutine s params None false (InBlock s true false all) i j × (deepest_statement all ≤ room)
  unfolding read_maker
  maker_ok room at i x j h =
      let o = when_ok (is_mark m.OpenParenthesis (kind s i)) (read_parameters s (i + 1) >>= λ p. read_block s (statement s room true false) p.1 >>= λ b. Some (Constructor (Does at p.0 None b.0 false), b.1)) (x, j) h in
      let a = bind_ok (read_parameters s (i + 1)) (λ p. read_block s (statement s room true false) p.1 >>= λ b. Some (Constructor (Does at p.0 None b.0 false), b.1)) (x, j) o.1 in
      let b = bind_ok (read_block s (statement s room true false) a.0.1) (λ b. Some (Constructor (Does at a.0.0 None b.0 false), b.1)) (x, j) a.2 in
      let held = block_ok room a.0.1 b.0.0 b.0.1 b.1 in
      let same = some_is (Constructor (Does at a.0.0 None b.0.0 false), b.0.1) (x, j) b.2 in (
        a.0.0,
        b.0.0,
        sym (ap (λ (z : ClassMember × ℕ). z.0) same),
        subst (λ z. IsRoutine s a.0.0 None false (InBlock s true false b.0.0) i z) (ap (λ (z : ClassMember × ℕ). z.1) same)
            (a.0.1, a.0.1, a.0.1, mark_is m.OpenParenthesis (kind s i) o.0, parameters_ok (i + 1) a.0.0 a.0.1 a.1, refl, refl, held.0, held.1),
        held.2,
      )

  field_end_by : (b : Bool) (field : Declaration) (i j : ℕ) → is_mark m.Comma (kind s i) ≡ b → (is_mark m.Comma (kind s i) ≡ false → field_continues s field i ≡ false) → (if b then None else read_end s i) ≡ Some j → Ends s (field_continues s field i) i j
  field_end_by true field i j p q h = absurd (let z : ◌≡◌ {A = Option ℕ} None (Some j) = h in cc)
  field_end_by false field i j p q h = subst (λ g. Ends s g i j) (sym (q p)) (end_ok i j h)

  field_end_ok : (field : Declaration) (i j : ℕ) → (is_mark m.Comma (kind s i) ≡ false → field_continues s field i ≡ false) → read_field_end s i ≡ Some j → Ends s (field_continues s field i) i j
  unfolding read_field_end
  field_end_ok field i j q h = field_end_by (is_mark m.Comma (kind s i)) field i j refl q h

  field_ok : (room i k name : ℕ) (x : ClassMember) (j : ℕ) → HasModifier s i k → IsMemberName s k name → is_mark m.OpenParenthesis (kind s (k + 1)) ≡ false
      → read_field s (statement_readers s room) (place s k) name (k + 1) ≡ Some (x, j) → IsMember s x i j × (member_nesting x ≤ 1 + room)
  unfolding read_field
  field_ok room i k name x j behind named shut h =
      let t = bind_ok (read_optional_type s (k + 1)) (λ t. read_initialiser (expression s (length s.tokens) room 1) false (is_mark m.Assign (kind s t.1)) t.1 >>= λ first. read_field_end s first.1 >>= λ e. Some (Field (Declare (place s k) name t.0 first.0), e)) (x, j) h in
      let v = bind_ok (read_initialiser (expression s (length s.tokens) room 1) false (is_mark m.Assign (kind s t.0.1)) t.0.1) (λ first. read_field_end s first.1 >>= λ e. Some (Field (Declare (place s k) name t.0.0 first.0), e)) (x, j) t.2 in
      let e = bind_ok (read_field_end s v.0.1) (λ e. Some (Field (Declare (place s k) name t.0.0 v.0.0), e)) (x, j) v.2 in
      let first = initialiser_ok room t.0.1 v.0.0 v.0.1 v.1 in
      let deep = first.1 in
      let typed = type_ok (k + 1) t.0.0 t.0.1 t.1 in
      let comma : is_mark m.Comma (kind s v.0.1) ≡ false → field_continues s (Declare (place s k) name t.0.0 v.0.0) v.0.1 ≡ false = λ none. field_stops s (place s k) name t.0.0 v.0.0 (k + 1) t.0.1 v.0.1 typed.0 first.0 shut (first.2 (place s k) name t.0.0 typed.1 none) in
      subst (λ z. IsMember s z.0 i z.1 × (member_nesting z.0 ≤ 1 + room)) (some_is (Field (Declare (place s k) name t.0.0 v.0.0), e.0) (x, j) e.2)
      ((k, t.0.1, v.0.1, behind, refl, named, typed.0, first.0, field_end_ok (Declare (place s k) name t.0.0 v.0.0) v.0.1 e.0 comma e.1), omega (arith, deep))

  method_ok : (room i k name : ℕ) (x : ClassMember) (j : ℕ) → HasModifier s i k → IsMemberName s k name → ¬ (IsConstructor s k)
      → read_method s (statement_readers s room) (place s k) name (k + 1) ≡ Some (x, j) → IsMember s x i j × (member_nesting x ≤ 1 + room)
  unfolding read_method
  method_ok room i k name x j behind named other h =
      let a = bind_ok (read_routine s (statement_readers s room) (place s k) (k + 1)) (λ r. Some (Method name r.0, r.1)) (x, j) h in
      let r = routine_ok room (place s k) (k + 1) a.0.0 a.0.1 a.1 in
      let same : ◌≡◌ {A = ClassMember × ℕ} (Method name (Does (place s k) r.0 r.1 r.2 false), a.0.1) (x, j) = ap (λ z. (Method name z, a.0.1)) (sym r.3) ∙ some_is (Method name a.0.0, a.0.1) (x, j) a.2 in
      let deep = r.5 in
      subst (λ z. IsMember s z.0 i z.1 × (member_nesting z.0 ≤ 1 + room)) same ((k, behind, refl, named, other, r.4), omega (arith, deep))

  named_by : (room i k name : ℕ) (x : ClassMember) (j : ℕ) (called maker : Bool) → is_mark m.OpenParenthesis (kind s (k + 1)) ≡ called → HasModifier s i k → IsMemberName s k name → is_constructor s (kind s k) ≡ maker
      → read_behind_name s (statement_readers s room) (place s k) name (k + 1) called maker ≡ Some (x, j) → IsMember s x i j × (member_nesting x ≤ 1 + room)
  named_by room i k name x j false maker shut behind named c h = field_ok room i k name x j behind named shut h
  named_by room i k name x j true false shut behind named c h = method_ok room i k name x j behind named (constructor_not s k c) h
  named_by room i k name x j true true shut behind named c h =
      let r = maker_ok room (place s k) (k + 1) x j h in
      let deep = r.4 in
      subst (λ z. IsMember s z i j × (member_nesting z ≤ 1 + room)) (sym r.2) ((k, behind, refl, constructor_is s k c, r.3), omega (arith, deep))

  modifier_ok : (i : ℕ) (b : Bool) → (is_modifier (kind s i) && is_found (member_name_of (kind s (i + 1)))) ≡ b → HasModifier s i (if b then i + 1 else i)
  modifier_ok i true h = inl (modifier_true s i h, refl)
  modifier_ok i false h = inr (modifier_false s i h, refl)

  behind_modifier_ok : (i : ℕ) → HasModifier s i (behind_modifier s i)
  unfolding behind_modifier
  behind_modifier_ok i = modifier_ok i (is_modifier (kind s i) && is_found (member_name_of (kind s (i + 1)))) refl

  named_ok : (room i k : ℕ) (x : ClassMember) (j : ℕ) → HasModifier s i k → read_named s (statement_readers s room) k ≡ Some (x, j) → IsMember s x i j × (member_nesting x ≤ 1 + room)
  unfolding read_named
  named_ok room i k x j behind h =
      let a = bind_ok (member_name_of (kind s k)) (λ name. read_behind_name s (statement_readers s room) (place s k) name (k + 1) (is_mark m.OpenParenthesis (kind s (k + 1))) (is_constructor s (kind s k))) (x, j) h in
      named_by room i k a.0 x j (is_mark m.OpenParenthesis (kind s (k + 1))) (is_constructor s (kind s k)) refl behind (member_name_is (kind s k) a.0 a.1) refl a.2

  first_or_later : (i n q : ℕ) → IsMark s i m.Semicolon → AreSemicolons s (i + 1) n → i ≤ q → q < n → (i < q) ⊎ (q ≤ i) → IsMark s q m.Semicolon
  first_or_later i n q at rest le lt (inl h) = rest.each q (omega arith) lt
  first_or_later i n q at rest le lt (inr h) = let e : i ≡ q = omega arith in subst (λ z. IsMark s z m.Semicolon) e at

  more_semicolons : (i n : ℕ) → IsMark s i m.Semicolon → AreSemicolons s (i + 1) n → AreSemicolons s i n
  more_semicolons i n at rest =
      let order = rest.order in record { order = omega arith; each = λ q le lt. first_or_later i n q at rest le lt (cases_lt i q) }

  no_semicolons : (i : ℕ) → AreSemicolons s i i
  no_semicolons i = record { order = omega arith; each = λ q le lt. absurd (omega arith) }

  -- a `;` before members
  members_behind : (rest : List ClassMember) (i j : ℕ) → IsMark s i m.Semicolon → AreMembers s rest (i + 1) j → AreMembers s rest i j
  members_behind [] i j at h = (h.0, more_semicolons i h.0 at h.1, h.2, h.3)
  members_behind (x ∷ rest) i j at h = (h.0, h.1, more_semicolons i h.0 at h.2, h.3, h.4)

  abbrev Members : ℕ → List ClassMember → ℕ → List ClassMember → ℕ → Type 0
  Members room all i all' j = (rest : List ClassMember) × (all' ≡ all ++ rest) × AreMembers s rest i j × (deepest_member rest ≤ 1 + room)

  abbrev MembersOk : ℕ → ℕ → Type 0
  MembersOk room n = (all : List ClassMember) (i : ℕ) (all' : List ClassMember) (j : ℕ) → read_members s (statement_readers s room) n all i ≡ Some (all', j) → Members room all i all' j

  members_by : (room n : ℕ) → MembersOk room n → (all : List ClassMember) (i : ℕ) (all' : List ClassMember) (j : ℕ) (b c : Bool) → is_mark m.CloseBrace (kind s i) ≡ b → is_mark m.Semicolon (kind s i) ≡ c
      → (if b then Some (all, i + 1) else if c then read_members s (statement_readers s room) n all (i + 1) else (read_named s (statement_readers s room) (behind_modifier s i) >>= λ a. read_members s (statement_readers s room) n (all ++ a.0 ∷ []) a.1)) ≡ Some (all', j)
      → Members room all i all' j
  members_by room n again all i all' j true c p q h =
      let same = some_is (all, i + 1) (all', j) h in
      ([], sym (ap (λ (z : List ClassMember × ℕ). z.0) same) ∙ sym (append-nil all), (i, no_semicolons i, mark_is m.CloseBrace (kind s i) p, sym (ap (λ (z : List ClassMember × ℕ). z.1) same)), omega arith)
  members_by room n again all i all' j false true p q h =
      let r = again all (i + 1) all' j h in (r.0, r.1, members_behind r.0 i j (mark_is m.Semicolon (kind s i) q) r.2, r.3)
  members_by room n again all i all' j false false p q h =
      let a = bind_ok (read_named s (statement_readers s room) (behind_modifier s i)) (λ a. read_members s (statement_readers s room) n (all ++ a.0 ∷ []) a.1) (all', j) h in
      let x = named_ok room i (behind_modifier s i) a.0.0 a.0.1 (behind_modifier_ok i) a.1 in
      let r = again (all ++ a.0.0 ∷ []) a.0.1 all' j a.2 in
      let deep = x.1 in let deeper = r.3 in
      (a.0.0 ∷ r.0, r.1 ∙ append_assoc all (a.0.0 ∷ []) r.0, (i, a.0.1, no_semicolons i, x.0, r.2), omega arith)

  members_ok : (room n : ℕ) → MembersOk room n
  unfolding read_members
  members_ok room zero = λ all i all' j h. absurd (let z : ◌≡◌ {A = Option (List ClassMember × ℕ)} None (Some (all', j)) = h in cc)
  members_ok room (suc n) = λ all i all' j h. members_by room n (members_ok room n) all i all' j (is_mark m.CloseBrace (kind s i)) (is_mark m.Semicolon (kind s i)) refl refl h

  base_ok : (b : Bool) (i : ℕ) (base : Option ℕ) (base_at j : ℕ) → is_word w.Extends (kind s i) ≡ b → read_base s b i ≡ Some ((base, base_at), j) → HasBase s base base_at i j
  base_ok false i base base_at j p h =
      subst (λ (z : (Option ℕ × ℕ) × ℕ). HasBase s z.0.0 z.0.1 i z.1) (some_is ((None, 0), i) ((base, base_at), j) h) (refl, refl)
  base_ok true i base base_at j p h =
      let a = bind_ok (name_of (kind s (i + 1))) (λ x. Some ((Some x, place s (i + 1)), i + 2)) ((base, base_at), j) h in
      subst (λ (z : (Option ℕ × ℕ) × ℕ). HasBase s z.0.0 z.0.1 i z.1) (some_is ((Some a.0, place s (i + 1)), i + 2) ((base, base_at), j) a.2)
      (word_is s i w.Extends (kind s i) refl p, name_is (kind s (i + 1)) a.0 a.1, refl, refl)

  class_ok : (room i : ℕ) (x : TopLevel) (j : ℕ) → IsWord s i w.Class → read_class s (statement_readers s room) (i + 1) ≡ Some (x, j) → IsPart s x i j × (top_level_nesting x ≤ 2 + room)
  unfolding read_class
  class_ok room i x j word h =
      let name = bind_ok (name_of (kind s (i + 1))) (λ name. read_base s (is_word w.Extends (kind s (i + 1 + 1))) (i + 1 + 1) >>= λ base. when (is_mark m.OpenBrace (kind s base.1)) (read_members s (statement_readers s room) (length s.tokens) [] (base.1 + 1) >>= λ all. Some (Class (place s (i + 1)) name base.0.0 base.0.1 all.0, all.1))) (x, j) h in
      let base = bind_ok (read_base s (is_word w.Extends (kind s (i + 1 + 1))) (i + 1 + 1)) (λ base. when (is_mark m.OpenBrace (kind s base.1)) (read_members s (statement_readers s room) (length s.tokens) [] (base.1 + 1) >>= λ all. Some (Class (place s (i + 1)) name.0 base.0.0 base.0.1 all.0, all.1))) (x, j) name.2 in
      let brace = when_ok (is_mark m.OpenBrace (kind s base.0.1)) (read_members s (statement_readers s room) (length s.tokens) [] (base.0.1 + 1) >>= λ all. Some (Class (place s (i + 1)) name.0 base.0.0.0 base.0.0.1 all.0, all.1)) (x, j) base.2 in
      let all = bind_ok (read_members s (statement_readers s room) (length s.tokens) [] (base.0.1 + 1)) (λ all. Some (Class (place s (i + 1)) name.0 base.0.0.0 base.0.0.1 all.0, all.1)) (x, j) brace.1 in
      let r = members_ok room (length s.tokens) [] (base.0.1 + 1) all.0.0 all.0.1 all.1 in
      let held : AreMembers s all.0.0 (base.0.1 + 1) all.0.1 = subst (λ z. AreMembers s z (base.0.1 + 1) all.0.1) (sym r.1) r.2 in
      let deep : deepest_member all.0.0 ≤ 1 + room = subst (λ z. deepest_member z ≤ 1 + room) (sym r.1) r.3 in
      let two : i + 1 + 1 ≡ i + 2 = omega arith in
      let parent : HasBase s base.0.0.0 base.0.0.1 (i + 2) base.0.1 = subst (λ z. HasBase s base.0.0.0 base.0.0.1 z base.0.1) two (base_ok (is_word w.Extends (kind s (i + 1 + 1))) (i + 1 + 1) base.0.0.0 base.0.0.1 base.0.1 refl base.1) in
      subst (λ z. IsPart s z.0 i z.1 × (top_level_nesting z.0 ≤ 2 + room)) (some_is (Class (place s (i + 1)) name.0 base.0.0.0 base.0.0.1 all.0.0, all.0.1) (x, j) all.2)
      ((base.0.1, word, refl, name_is (kind s (i + 1)) name.0 name.1, parent, mark_is m.OpenBrace (kind s base.0.1) brace.0, held), omega arith)

  function_ok : (room i : ℕ) (x : TopLevel) (j : ℕ) → IsWord s i w.Function → read_function s (statement_readers s room) (i + 1) ≡ Some (x, j) → IsPart s x i j × (top_level_nesting x ≤ 1 + room)
  unfolding read_function
  function_ok room i x j word h =
      let name = bind_ok (name_of (kind s (i + 1))) (λ name. read_routine s (statement_readers s room) (place s (i + 1)) (i + 1 + 1) >>= λ r. Some (Function name r.0, r.1)) (x, j) h in
      let a = bind_ok (read_routine s (statement_readers s room) (place s (i + 1)) (i + 1 + 1)) (λ r. Some (Function name.0 r.0, r.1)) (x, j) name.2 in
      let r = routine_ok room (place s (i + 1)) (i + 1 + 1) a.0.0 a.0.1 a.1 in
      let same : ◌≡◌ {A = TopLevel × ℕ} (Function name.0 (Does (place s (i + 1)) r.0 r.1 r.2 false), a.0.1) (x, j) = ap (λ z. (Function name.0 z, a.0.1)) (sym r.3) ∙ some_is (Function name.0 a.0.0, a.0.1) (x, j) a.2 in
      let two : i + 1 + 1 ≡ i + 2 = omega arith in
      let held : IsRoutine s r.0 r.1 false (InBlock s true false r.2) (i + 2) a.0.1 = subst (λ z. IsRoutine s r.0 r.1 false (InBlock s true false r.2) z a.0.1) two r.4 in
      let deep = r.5 in
      subst (λ z. IsPart s z.0 i z.1 × (top_level_nesting z.0 ≤ 1 + room)) same ((word, refl, name_is (kind s (i + 1)) name.0 name.1, held), omega arith)

  main_ok : (room i : ℕ) (x : TopLevel) (j : ℕ) → read_main (statement_readers s room) i ≡ Some (x, j) → IsPart s x i j × (top_level_nesting x ≤ room)
  unfolding read_main
  main_ok room i x j h =
      let a = bind_ok (statement s room false false i) (λ a. Some (Main a.0, a.1)) (x, j) h in
      subst (λ z. IsPart s z.0 i z.1 × (top_level_nesting z.0 ≤ room)) (some_is (Main a.0.0, a.0.1) (x, j) a.2) (statement_ok room false false i a.0.0 a.0.1 a.1)

  part_ok : (room i : ℕ) (t : TokenKind) (x : TopLevel) (j : ℕ) → 2 ≤ room → kind s i ≡ t → read_part s room i t ≡ Some (x, j) → IsPart s x i j × (top_level_nesting x ≤ room)
  part_ok room i (k.Word w.Class name) x j two q h =
      let r = class_ok (room - 2) i x j (name, q) h in let deep = r.1 in (r.0, omega arith)
  part_ok room i (k.Word w.Function name) x j two q h =
      let r = function_ok (room - 1) i x j (name, q) h in let deep = r.1 in (r.0, omega arith)
  part_ok room i t x j two q h = main_ok room i x j h

  abbrev Parts : ℕ → Program → ℕ → Program → Type 0
  Parts room all i all' = (rest : Program) × (all' ≡ all ++ rest) × AreParts s rest i × (deepest_top_level rest ≤ room)

  abbrev PartsOk : ℕ → ℕ → Type 0
  PartsOk room n = (all : Program) (i : ℕ) (all' : Program) → read_parts s room n all i ≡ Some all' → Parts room all i all'

  parts_by : (room n : ℕ) → 2 ≤ room → PartsOk room n → (all : Program) (i : ℕ) (all' : Program) (b : Bool) → is_finish (kind s i) ≡ b
      → (if b then when (length s.tokens == i + 1) (Some all) else (read_part s room i (kind s i) >>= λ a. read_parts s room n (all ++ a.0 ∷ []) a.1)) ≡ Some all'
      → Parts room all i all'
  parts_by room n two again all i all' true p h =
      let last = when_ok (length s.tokens == i + 1) (Some all) all' h in
      ([], sym (some_is all all' last.1) ∙ sym (append-nil all), (finish_is (kind s i) p, eqb-true (length s.tokens) (i + 1) last.0), omega arith)
  parts_by room n two again all i all' false p h =
      let a = bind_ok (read_part s room i (kind s i)) (λ a. read_parts s room n (all ++ a.0 ∷ []) a.1) all' h in
      let x = part_ok room i (kind s i) a.0.0 a.0.1 two refl a.1 in
      let r = again (all ++ a.0.0 ∷ []) a.0.1 all' a.2 in
      let deep = x.1 in let deeper = r.3 in
      (a.0.0 ∷ r.0, r.1 ∙ append_assoc all (a.0.0 ∷ []) r.0, (a.0.1, x.0, r.2), omega arith)

  parts_ok : (room n : ℕ) → 2 ≤ room → PartsOk room n
  unfolding read_parts
  parts_ok room zero two = λ all i all' h. absurd (let z : ◌≡◌ {A = Option Program} None (Some all') = h in cc)
  parts_ok room (suc n) two = λ all i all' h. parts_by room n two (parts_ok room n two) all i all' (is_finish (kind s i)) refl h

  -- A whole text that is read is spelled, within the nesting.
  pub program_ok : (program : Program) → read_program s ≡ Some program → IsProgram s program
  unfolding read_program
  program_ok program h =
      let r = parts_ok part_nesting (length s.tokens) (omega arith) [] 0 program h in
      let deep : deepest_top_level program ≤ part_nesting = subst (λ z. deepest_top_level z ≤ part_nesting) (sym r.1) r.3 in
      record { spelled = subst (λ z. AreParts s z 0) (sym r.1) r.2; nested = omega arith }
