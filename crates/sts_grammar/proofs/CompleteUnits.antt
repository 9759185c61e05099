-- What a whole text spells is read.
use Rattle.std.proofs.Common.{◌≡◌, ◌≢◌, ℕ, zero, suc, ◌+◌, ◌-◌, ◌<◌, ◌≤◌, ◌++◌, List, [], ◌∷◌, length, refl, sym, ap, ◌∙◌, subst, arith, inl, inr, ltb-false}
use Rattle.std.specs.Prelude.{Bool, true, false, not, ◌&&◌, ◌||◌, ◌==◌, if◌then◌else◌, Option, Some, None, ◌⊎◌}
use Rattle.std.proofs.lemmas.Bool.{false≢true, cases_lt, eq-eqb}
use Rattle.std.proofs.lemmas.List.{append-nil, append_assoc}
use Rattle.sts_lexer.specs.declared.marks.Mark.{Mark}
use Rattle.sts_lexer.specs.declared.marks.Mark.TheVariants as m
use Rattle.sts_lexer.specs.declared.words.Word.TheVariants as w
use Rattle.sts_lexer.specs.declared.token.TokenKind.{TokenKind}
use Rattle.sts_lexer.specs.declared.token.TokenKind.TheVariants as k
use Rattle.sts_syntax.specs.Annotations.{Annotation}
use Rattle.sts_syntax.specs.Trees.{Parameter, OptionalTree, absent, present, Statement, Statements, Declaration, Declare, Does}
use Rattle.sts_syntax.specs.Programs.{ClassMember, Field, Method, Constructor, TopLevel, Class, Function, Main, Program}
use Rattle.sts_syntax.specs.Nesting.{statement_nesting, deepest_statement, optional_nesting, member_nesting, deepest_member, top_level_nesting, deepest_top_level}
use Rattle.sts_grammar.specs.Limits.{part_nesting}
use Rattle.sts_grammar.specs.Source.{Source, kind, broken, place, IsMark, IsName, IsMemberName, is_mark, is_word}
use Rattle.sts_grammar.specs.Headings.{HasType, HasResult, AreParameters}
use Rattle.sts_grammar.specs.Operands.{IsRoutine}
use Rattle.sts_grammar.specs.Ends.{may_end, binds, kind_binds, continues, Ends}
use Rattle.sts_grammar.specs.Spells.{IsInitialised, IsStatement, InBlock}
use Rattle.sts_grammar.specs.Units.{is_modifier, HasModifier, field_continues, IsConstructor, IsMember, AreSemicolons, AreMembers, HasBase, IsPart, AreParts, IsProgram}
use Rattle.sts_grammar.specs.Found.{Found, ◌>>=◌, when}
use Rattle.sts_grammar.specs.ReadHeadings.{read_heading, read_parameters, read_optional_type, is_pair}
use Rattle.sts_grammar.specs.ReadExpressions.{read_block}
use Rattle.sts_grammar.specs.ReadStatements.{read_end, read_initialiser}
use Rattle.sts_grammar.specs.Reading.{expression, statement, statement_readers}
use Rattle.sts_grammar.specs.ReadUnits.{behind_modifier, is_constructor, read_routine, read_maker, read_field_end, read_field, read_method, read_behind_name, read_named, read_members, read_base, read_class, read_function, read_main, read_part, is_finish, read_parts, read_program}
use Rattle.sts_grammar.proofs.FieldEnds.{goes_on_is}
use Rattle.sts_grammar.proofs.Tokens.{mark_is}
use Rattle.sts_grammar.proofs.UnitTokens.{member_name_of_is, is_constructor_true, modified_is, modified_not, is_constructor_false, and_true, name_of_is}

-- what is known of the readers below
pub record CompleteBelow (s : Source) : Type 0 where
  pub statement_reads : (room : ℕ) (f l : Bool) (i : ℕ) (a : Statement) (j : ℕ) → IsStatement s f l a i j → statement_nesting a ≤ room → statement s room f l i ≡ Some (a, j)
  pub begins : (room : ℕ) (i : ℕ) (a : Statement) (j : ℕ) → IsStatement s false false a i j → (read_part s room i (kind s i) ≡ read_main (statement_readers s room) i) × (is_finish (kind s i) ≡ false)
  pub statement_less : (i : ℕ) (a : Statement) (j : ℕ) → IsStatement s false false a i j → (i < j) × (j ≤ length s.tokens)
  pub routine_less : (params : List Parameter) (gives : Option Annotation) (all : Statements) (i j : ℕ) → IsRoutine s params gives false (InBlock s true false all) i j → (i < j) × (j ≤ length s.tokens)
  pub block_reads : (room : ℕ) (i : ℕ) (all : Statements) (j : ℕ) → IsMark s i m.OpenBrace → InBlock s true false all (i + 1) j → deepest_statement all ≤ room → read_block s (statement s room true false) i ≡ Some (all, j)
  pub heading_reads : (i n : ℕ) (params : List Parameter) (gives : Option Annotation) (j : ℕ) → IsMark s i m.OpenParenthesis → AreParameters s params (i + 1) n → HasResult s gives n j → IsMark s j m.OpenBrace → read_heading s i ≡ Some ((params, gives), j)
  pub parameters_reads : (i : ℕ) (params : List Parameter) (j : ℕ) → AreParameters s params i j → read_parameters s i ≡ Some (params, j)
  pub type_reads : (i : ℕ) (shape : Option Annotation) (j : ℕ) → HasType s shape i j → is_pair s j ≡ false → (shape ≡ None → is_mark m.Colon (kind s j) ≡ false) → read_optional_type s i ≡ Some (shape, j)
  pub end_reads : (goes_on : Bool) (i j : ℕ) → Ends s goes_on i j → read_end s i ≡ Some j
  pub field_spans : (shape : Option Annotation) (first : OptionalTree) (goes_on : Bool) (i n o j : ℕ) → HasType s shape i n → IsInitialised s false first n o → Ends s goes_on o j → i ≤ length s.tokens → (i ≤ j) × (j ≤ length s.tokens)
  pub mark_inside : (i : ℕ) (mark : Mark) → IsMark s i mark → i < length s.tokens
  pub member_inside : (i name : ℕ) → IsMemberName s i name → i < length s.tokens
  pub initialiser_reads : (room i : ℕ) (first : OptionalTree) (j : ℕ) → IsInitialised s false first i j → optional_nesting first ≤ room → (first ≡ absent → is_mark m.Assign (kind s j) ≡ false) → (first ≢ absent → binds s j ≡ 0) → read_initialiser (expression s (length s.tokens) room 1) false (is_mark m.Assign (kind s i)) i ≡ Some (first, j)

not_true : (b : Bool) → (b ≡ true → ⊥) → b ≡ false
not_true true h = absurd (h refl)
not_true false h = refl

-- such a mark ends nothing where it goes on with what stands before it
ends_not : (s : Source) (mark : Mark) (goes_on : Bool) (o j : ℕ) → goes_on ≡ true → mark ≢ m.Semicolon → ((nl : Bool) → may_end (k.Mark mark) nl true ≡ false) → IsMark s o mark → Ends s goes_on o j → ⊥
ends_not s mark goes_on o j g other cant at (inl h) = other (mark_same mark m.Semicolon (sym at ∙ h.0))
  where
    mark_same : (a b : Mark) → k.Mark a ≡ k.Mark b → a ≡ b
    mark_same a b e = cc
ends_not s mark goes_on o j g other cant at (inr h) = false≢true (sym (cant (broken s o)) ∙ ap (λ x. may_end (k.Mark mark) (broken s o) x) (sym g) ∙ ap (λ x. may_end x (broken s o) goes_on) (sym at) ∙ h.0)

assign_cant : (nl : Bool) → may_end (k.Mark m.Assign) nl true ≡ false
assign_cant true = refl
assign_cant false = refl

colon_cant : (nl : Bool) → may_end (k.Mark m.Colon) nl true ≡ false
colon_cant true = refl
colon_cant false = refl

open_cant : (nl : Bool) → may_end (k.Mark m.OpenParenthesis) nl true ≡ false
open_cant true = refl
open_cant false = refl

comma_cant : (nl : Bool) → may_end (k.Mark m.Comma) nl true ≡ false
comma_cant true = refl
comma_cant false = refl

comma_mark : (t : TokenKind) → is_mark m.Comma t ≡ true → t ≡ k.Mark m.Comma
comma_mark (k.Mark m.Comma) h = refl
comma_mark t h = absurd (false≢true h)

assign_mark : (t : TokenKind) → is_mark m.Assign t ≡ true → t ≡ k.Mark m.Assign
assign_mark (k.Mark m.Assign) h = refl
assign_mark t h = absurd (false≢true h)

colon_mark : (t : TokenKind) → is_mark m.Colon t ≡ true → t ≡ k.Mark m.Colon
colon_mark (k.Mark m.Colon) h = refl
colon_mark t h = absurd (false≢true h)

open_mark : (t : TokenKind) → is_mark m.OpenParenthesis t ≡ true → t ≡ k.Mark m.OpenParenthesis
open_mark (k.Mark m.OpenParenthesis) h = refl
open_mark t h = absurd (false≢true h)

not_semicolon : (t : TokenKind) (nl g : Bool) → may_end t nl g ≡ true → is_mark m.Semicolon t ≡ false
not_semicolon t nl g h = not_true (is_mark m.Semicolon t) (λ q. not_semicolon_at t nl g q h)
  where
    not_semicolon_at : (t : TokenKind) (nl g : Bool) → is_mark m.Semicolon t ≡ true → may_end t nl g ≡ true → ⊥
    not_semicolon_at (k.Mark m.Semicolon) nl g q h = false≢true h
    not_semicolon_at t nl g q h = false≢true q

or_true_left : (a b : Bool) → a ≡ true → (a || b) ≡ true
or_true_left true b h = refl
or_true_left false b h = absurd (false≢true h)

or_true_right : (a b : Bool) → b ≡ true → (a || b) ≡ true
or_true_right true b h = refl
or_true_right false b h = h

closing : (t : TokenKind) (nl : Bool) → may_end t nl true ≡ true → (t ≡ k.Mark m.CloseBrace) ⊎ (t ≡ k.Finish)
closing (k.Mark m.CloseBrace) nl h = inl refl
closing k.Finish nl h = inr refl
closing t true h = absurd (false≢true h)
closing t false h = absurd (false≢true h)

module _ (s : Source) where
  -- nothing goes on with a field where it ends
  bare_no_assign : (at name o j : ℕ) → Ends s (field_continues s (Declare at name None absent) o) o j → is_mark m.Assign (kind s o) ≡ false
  bare_no_assign at name o j h = not_true (is_mark m.Assign (kind s o)) (λ q. let e = assign_mark (kind s o) q in ends_not s m.Assign (field_continues s (Declare at name None absent) o) o j (rw e refl) (λ x. cc) assign_cant e h)

  bare_no_colon : (at name o j : ℕ) → Ends s (field_continues s (Declare at name None absent) o) o j → is_mark m.Colon (kind s o) ≡ false
  bare_no_colon at name o j h = not_true (is_mark m.Colon (kind s o)) (λ q. let e = colon_mark (kind s o) q in ends_not s m.Colon (field_continues s (Declare at name None absent) o) o j (rw e refl) (λ x. cc) colon_cant e h)

  bare_no_open : (at name o j : ℕ) → Ends s (field_continues s (Declare at name None absent) o) o j → is_mark m.OpenParenthesis (kind s o) ≡ false
  bare_no_open at name o j h = not_true (is_mark m.OpenParenthesis (kind s o)) (λ q. let e = open_mark (kind s o) q in ends_not s m.OpenParenthesis (field_continues s (Declare at name None absent) o) o j (rw e refl) (λ x. cc) open_cant e h)

  typed_no_assign : (at name : ℕ) (t : Annotation) (o j : ℕ) → Ends s (field_continues s (Declare at name (Some t) absent) o) o j → is_mark m.Assign (kind s o) ≡ false
  typed_no_assign at name t o j h = not_true (is_mark m.Assign (kind s o)) (λ q. let e = assign_mark (kind s o) q in ends_not s m.Assign (field_continues s (Declare at name (Some t) absent) o) o j (rw e refl) (λ x. cc) assign_cant e h)

  -- no unbroken `[` stands where something ends
  no_pair : (goes_on : Bool) (o j : ℕ) → Ends s goes_on o j → is_pair s o ≡ false
  no_pair goes_on o j h = not_true (is_mark m.OpenBracket (kind s o) && (not (broken s o) && is_mark m.CloseBracket (kind s (o + 1)))) (λ q. pair_not goes_on o j h q)
    where
      unbroken_ends : (goes_on : Bool) (b : Bool) → not b ≡ true → may_end (k.Mark m.OpenBracket) b goes_on ≡ false
      unbroken_ends goes_on true q = absurd (false≢true q)
      unbroken_ends goes_on false q = refl

      pair_not : (goes_on : Bool) (o j : ℕ) → Ends s goes_on o j → (is_mark m.OpenBracket (kind s o) && (not (broken s o) && is_mark m.CloseBracket (kind s (o + 1)))) ≡ true → ⊥
      pair_not goes_on o j (inl h) q = let a = and_true (is_mark m.OpenBracket (kind s o)) (not (broken s o) && is_mark m.CloseBracket (kind s (o + 1))) q in (let e = sym (mark_is m.OpenBracket (kind s o) a.0) ∙ h.0 in let z : ◌≡◌ {A = TokenKind} (k.Mark m.OpenBracket) (k.Mark m.Semicolon) = e in cc)
      pair_not goes_on o j (inr h) q =
          let a = and_true (is_mark m.OpenBracket (kind s o)) (not (broken s o) && is_mark m.CloseBracket (kind s (o + 1))) q in
          let b = and_true (not (broken s o)) (is_mark m.CloseBracket (kind s (o + 1))) a.1 in
          false≢true (sym (unbroken_ends goes_on (broken s o) b.0) ∙ ap (λ x. may_end x (broken s o) goes_on) (sym (mark_is m.OpenBracket (kind s o) a.0)) ∙ h.0)

  assign_no_pair : (o : ℕ) → IsMark s o m.Assign → is_pair s o ≡ false
  assign_no_pair o h = rw h refl

  -- a whole expression ends where a field with an initialiser does
  closed_binds : (o : ℕ) → (kind s o ≡ k.Mark m.CloseBrace) ⊎ (kind s o ≡ k.Finish) → binds s o ≡ 0
  closed_binds o (inl h) = ap (kind_binds (kind s (o - 1)) (broken s o)) h
  closed_binds o (inr h) = ap (kind_binds (kind s (o - 1)) (broken s o)) h

  ends_binds : (o j : ℕ) (more b : Bool) → continues s o ≡ b → Ends s (continues s o || more) o j → binds s o ≡ 0
  ends_binds o j more b q (inl h) = ap (kind_binds (kind s (o - 1)) (broken s o)) h.0
  ends_binds o j more false q (inr h) = let le = ltb-false 0 (binds s o) q in omega arith
  ends_binds o j more true q (inr h) =
      closed_binds o (closing (kind s o) (broken s o) (ap (λ x. may_end (kind s o) (broken s o) (x || more)) (sym q) ∙ h.0))

module _ (s : Source) (below : CompleteBelow s) where
  open below use {statement_reads, begins, statement_less, routine_less, block_reads, heading_reads, parameters_reads, type_reads, end_reads, field_spans, mark_inside, member_inside, initialiser_reads}

  -- a field's end is read: no comma stands there
  no_comma : (field : Declaration) (o j : ℕ) → Ends s (field_continues s field o) o j → field_continues s field o ≡ is_mark m.Comma (kind s o) → is_mark m.Comma (kind s o) ≡ false
  no_comma field o j h e = not_true (is_mark m.Comma (kind s o)) (λ q. ends_not s m.Comma (field_continues s field o) o j (e ∙ q) (λ x. cc) comma_cant (comma_mark (kind s o) q) h)

  field_end_reads : (field : Declaration) (o j : ℕ) → Ends s (field_continues s field o) o j → field_continues s field o ≡ is_mark m.Comma (kind s o) → read_field_end s o ≡ Some j
  unfolding read_field_end
  field_end_reads field o j h e = ap (λ x. if x then None else read_end s o) (no_comma field o j h e) ∙ end_reads (field_continues s field o) o j h

  routine_reads : (room at i : ℕ) (params : List Parameter) (gives : Option Annotation) (all : Statements) (j : ℕ) → IsRoutine s params gives false (InBlock s true false all) i j → deepest_statement all ≤ room
      → read_routine s (statement_readers s room) at i ≡ Some (Does at params gives all false, j)
  unfolding read_routine
  routine_reads room at i params gives all j h deep =
      let brace : IsMark s h.1 m.OpenBrace = subst (λ z. IsMark s z m.OpenBrace) (sym h.6) h.7 in
      let held : InBlock s true false all (h.1 + 1) j = subst (λ z. InBlock s true false all (z + 1) j) (sym h.6) h.8 in
      let head = heading_reads i h.0 params gives h.1 h.3 h.4 h.5 brace in
      let block = block_reads room h.1 all j brace held deep in
      ap (λ r. r >>= λ h. read_block s (statement s room true false) h.1 >>= λ b. Some (Does at h.0.0 h.0.1 b.0 false, b.1)) head
      ∙ ap (λ r. r >>= λ b. Some (Does at params gives b.0 false, b.1)) block

  maker_reads : (room at i : ℕ) (params : List Parameter) (all : Statements) (j : ℕ) → IsRoutine s params None false (InBlock s true false all) i j → deepest_statement all ≤ room
      → read_maker s (statement_readers s room) at i ≡ Some (Constructor (Does at params None all false), j)
  unfolding read_maker
  maker_reads room at i params all j h deep =
      let same : h.0 ≡ h.2 = h.5 ∙ h.6 in
      let brace : IsMark s h.0 m.OpenBrace = subst (λ z. IsMark s z m.OpenBrace) (sym same) h.7 in
      let held : InBlock s true false all (h.0 + 1) j = subst (λ z. InBlock s true false all (z + 1) j) (sym same) h.8 in
      ap (λ x. when x (read_parameters s (i + 1) >>= λ p. read_block s (statement s room true false) p.1 >>= λ b. Some (Constructor (Does at p.0 None b.0 false), b.1))) (ap (is_mark m.OpenParenthesis) h.3)
      ∙ ap (λ r. r >>= λ p. read_block s (statement s room true false) p.1 >>= λ b. Some (Constructor (Does at p.0 None b.0 false), b.1)) (parameters_reads (i + 1) params h.0 h.4)
      ∙ ap (λ r. r >>= λ b. Some (Constructor (Does at params None b.0 false), b.1)) (block_reads room h.0 all j brace held deep)

  field_by : (room at name i n o : ℕ) (shape : Option Annotation) (first : OptionalTree) (j : ℕ) → read_optional_type s i ≡ Some (shape, n)
      → read_initialiser (expression s (length s.tokens) room 1) false (is_mark m.Assign (kind s n)) n ≡ Some (first, o) → Ends s (field_continues s (Declare at name shape first) o) o j → field_continues s (Declare at name shape first) o ≡ is_mark m.Comma (kind s o)
      → read_field s (statement_readers s room) at name i ≡ Some (Field (Declare at name shape first), j)
  unfolding read_field
  field_by room at name i n o shape first j t f e c =
      ap (λ r. r >>= λ t. read_initialiser (expression s (length s.tokens) room 1) false (is_mark m.Assign (kind s t.1)) t.1 >>= λ first. read_field_end s first.1 >>= λ j. Some (Field (Declare at name t.0 first.0), j)) t
      ∙ ap (λ r. r >>= λ first. read_field_end s first.1 >>= λ j. Some (Field (Declare at name shape first.0), j)) f
      ∙ ap (λ r. r >>= λ j. Some (Field (Declare at name shape first), j)) (field_end_reads (Declare at name shape first) o j e c)

  -- what stands behind the name of a field is read, and no `(` stands there
  field_reads : (room at name i n o : ℕ) (shape : Option Annotation) (first : OptionalTree) (j : ℕ) → HasType s shape i n → IsInitialised s false first n o → Ends s (field_continues s (Declare at name shape first) o) o j
      → optional_nesting first ≤ room → (is_mark m.OpenParenthesis (kind s i) ≡ false) × (read_field s (statement_readers s room) at name i ≡ Some (Field (Declare at name shape first), j))
  field_reads room at name i n o None absent j t f e deep =
      let here : i ≡ o = t ∙ f.1 in
      let here' : n ≡ o = f.1 in
      let shut : is_mark m.OpenParenthesis (kind s i) ≡ false = ap (λ x. is_mark m.OpenParenthesis (kind s x)) here ∙ bare_no_open s at name o j e in
      let colon : is_mark m.Colon (kind s n) ≡ false = ap (λ x. is_mark m.Colon (kind s x)) here' ∙ bare_no_colon s at name o j e in
      let assign = bare_no_assign s at name o j e in (
        shut,
        field_by room at name i n o None absent j
            (type_reads i None n t (ap (is_pair s) here' ∙ no_pair s (field_continues s (Declare at name None absent) o) o j e) (λ q. colon))
            (initialiser_reads room n absent o f deep (λ q. assign) (λ q. absurd (q refl))) e
            (goes_on_is s at name None absent i n o t f (λ q. colon) (λ q. assign) shut (λ q. absurd (q refl))),
      )
  field_reads room at name i n o None (present a) j t f e deep =
      let shut : is_mark m.OpenParenthesis (kind s i) ≡ false = ap (λ x. is_mark m.OpenParenthesis (kind s x)) t ∙ ap (is_mark m.OpenParenthesis) f.0 in
      let colon : is_mark m.Colon (kind s n) ≡ false = ap (is_mark m.Colon) f.0 in
      let whole = ends_binds s o j (is_mark m.Comma (kind s o)) (continues s o) refl e in (
        shut,
        field_by room at name i n o None (present a) j
            (type_reads i None n t (assign_no_pair s n f.0) (λ q. colon))
            (initialiser_reads room n (present a) o f deep (λ q. absurd (cc)) (λ q. whole)) e
            (goes_on_is s at name None (present a) i n o t f (λ q. colon) (λ q. absurd (cc)) shut (λ q. whole)),
      )
  field_reads room at name i n o (Some shape) absent j t f e deep =
      let here : n ≡ o = f.1 in
      let shut : is_mark m.OpenParenthesis (kind s i) ≡ false = ap (is_mark m.OpenParenthesis) t.0 in
      let assign = typed_no_assign s at name shape o j e in (
        shut,
        field_by room at name i n o (Some shape) absent j
            (type_reads i (Some shape) n t (ap (is_pair s) here ∙ no_pair s (field_continues s (Declare at name (Some shape) absent) o) o j e) (λ q. absurd (cc)))
            (initialiser_reads room n absent o f deep (λ q. assign) (λ q. absurd (q refl))) e
            (goes_on_is s at name (Some shape) absent i n o t f (λ q. absurd (cc)) (λ q. assign) shut (λ q. absurd (q refl))),
      )
  field_reads room at name i n o (Some shape) (present a) j t f e deep =
      let shut : is_mark m.OpenParenthesis (kind s i) ≡ false = ap (is_mark m.OpenParenthesis) t.0 in
      let whole = ends_binds s o j (is_mark m.Comma (kind s o)) (continues s o) refl e in (
        shut,
        field_by room at name i n o (Some shape) (present a) j
            (type_reads i (Some shape) n t (assign_no_pair s n f.0) (λ q. absurd (cc)))
            (initialiser_reads room n (present a) o f deep (λ q. absurd (cc)) (λ q. whole)) e
            (goes_on_is s at name (Some shape) (present a) i n o t f (λ q. absurd (cc)) (λ q. absurd (cc)) shut (λ q. whole)),
      )

  named_by : (room k name : ℕ) (called maker : Bool) (x : ClassMember) (j : ℕ) → IsMemberName s k name → is_mark m.OpenParenthesis (kind s (k + 1)) ≡ called → is_constructor s (kind s k) ≡ maker
      → read_behind_name s (statement_readers s room) (place s k) name (k + 1) called maker ≡ Some (x, j) → read_named s (statement_readers s room) k ≡ Some (x, j)
  unfolding read_named
  named_by room k name called maker x j named p q h =
      ap (λ r. r >>= λ name. read_behind_name s (statement_readers s room) (place s k) name (k + 1) (is_mark m.OpenParenthesis (kind s (k + 1))) (is_constructor s (kind s k))) (member_name_of_is (kind s k) name named)
      ∙ ap (λ x. read_behind_name s (statement_readers s room) (place s k) name (k + 1) x (is_constructor s (kind s k))) p
      ∙ ap (λ x. read_behind_name s (statement_readers s room) (place s k) name (k + 1) called x) q ∙ h

  constructor_name : (k : ℕ) → IsConstructor s k → (name : ℕ) × IsMemberName s k name
  constructor_name k h = (h.0, inl h.1)

  method_reads : (room at name i : ℕ) (params : List Parameter) (gives : Option Annotation) (all : Statements) (j : ℕ) → IsRoutine s params gives false (InBlock s true false all) i j → deepest_statement all ≤ room
      → read_method s (statement_readers s room) at name i ≡ Some (Method name (Does at params gives all false), j)
  unfolding read_method
  method_reads room at name i params gives all j h deep = ap (λ r. r >>= λ r. Some (Method name r.0, r.1)) (routine_reads room at i params gives all j h deep)

  -- A member is read from where its name stands, behind a modifier if there is one.
  record Named (room i : ℕ) (x : ClassMember) (j : ℕ) : Type 0 where
    k : ℕ
    modifier : HasModifier s i k
    name : ℕ
    named : IsMemberName s k name
    reads : read_named s (statement_readers s room) k ≡ Some (x, j)
    less : k < j
    inside : j ≤ length s.tokens

  modifier_le : (i k : ℕ) → HasModifier s i k → i ≤ k
  modifier_le i k (inl h) = omega (arith, h.1)
  modifier_le i k (inr h) = omega (arith, h.1)

  member_reads : (room i : ℕ) (x : ClassMember) (j : ℕ) → IsMember s x i j → member_nesting x ≤ 1 + room → Named room i x j
  member_reads room i (Field (Declare at name shape first)) j h deep =
      let k = h.0 in
      let f = field_reads room at name (k + 1) h.1 h.2 shape first j h.6 h.7 h.8 (omega arith) in
      let field : read_field s (statement_readers s room) (place s k) name (k + 1) ≡ Some (Field (Declare at name shape first), j) = subst (λ z. read_field s (statement_readers s room) z name (k + 1) ≡ Some (Field (Declare at name shape first), j)) h.4 f.1 in
      let at_name = member_inside k name h.5 in
      let spans = field_spans shape first (field_continues s (Declare at name shape first) h.2) (k + 1) h.1 h.2 j h.6 h.7 h.8 (omega arith) in
      let less = spans.0 in
      record {
        k = k;
        modifier = h.3;
        name = name;
        named = h.5;
        reads = named_by room k name false (is_constructor s (kind s k)) (Field (Declare at name shape first)) j h.5 f.0 refl field;
        less = omega arith;
        inside = spans.1;
      }
  member_reads room i (Method name (Does at params gives all true)) j h deep = absurd h
  member_reads room i (Method name (Does at params gives all false)) j h deep =
      let k = h.0 in
      let r : read_method s (statement_readers s room) at name (k + 1) ≡ Some (Method name (Does at params gives all false), j) = method_reads room at name (k + 1) params gives all j h.5 (omega arith) in
      let method = subst (λ z. read_method s (statement_readers s room) z name (k + 1) ≡ Some (Method name (Does at params gives all false), j)) h.2 r in
      let spans = routine_less params gives all (k + 1) j h.5 in
      let less = spans.0 in
      record {
        k = k;
        modifier = h.1;
        name = name;
        named = h.3;
        reads = named_by room k name true false (Method name (Does at params gives all false)) j h.3 (ap (is_mark m.OpenParenthesis) h.5.3) (is_constructor_false s k h.4) method;
        less = omega arith;
        inside = spans.1;
      }
  member_reads room i (Constructor (Does at params None all false)) j h deep =
      let k = h.0 in
      let r : read_maker s (statement_readers s room) at (k + 1) ≡ Some (Constructor (Does at params None all false), j) = maker_reads room at (k + 1) params all j h.4 (omega arith) in
      let maker = subst (λ z. read_maker s (statement_readers s room) z (k + 1) ≡ Some (Constructor (Does at params None all false), j)) h.2 r in
      let spans = routine_less params None all (k + 1) j h.4 in
      let less = spans.0 in
      record {
        k = k;
        modifier = h.1;
        name = h.3.0;
        named = inl h.3.1;
        reads = named_by room k h.3.0 true true (Constructor (Does at params None all false)) j (inl h.3.1) (ap (is_mark m.OpenParenthesis) h.4.3) (is_constructor_true s k h.3) maker;
        less = omega arith;
        inside = spans.1;
      }
  member_reads room i (Constructor (Does at params (Some gives) all arrow)) j h deep = absurd h
  member_reads room i (Constructor (Does at params None all true)) j h deep = absurd h

  behind_modifier_is : (i k : ℕ) → HasModifier s i k → behind_modifier s i ≡ k
  unfolding behind_modifier
  behind_modifier_is i k (inl h) = ap (λ x. if x then i + 1 else i) (modified_is s i h.0) ∙ sym h.1
  behind_modifier_is i k (inr h) = ap (λ x. if x then i + 1 else i) (modified_not s i h.0) ∙ sym h.1

  -- a member begins with a name or a word
  abbrev Begins : ℕ → Type 0
  Begins i = (is_mark m.CloseBrace (kind s i) ≡ false) × (is_mark m.Semicolon (kind s i) ≡ false)

  name_begins : (i name : ℕ) → IsMemberName s i name → Begins i
  name_begins i name (inl h) = (ap (is_mark m.CloseBrace) h, ap (is_mark m.Semicolon) h)
  name_begins i name (inr h) = (ap (is_mark m.CloseBrace) h.1, ap (is_mark m.Semicolon) h.1)

  modifier_begins : (i : ℕ) (t : TokenKind) → kind s i ≡ t → is_modifier t ≡ true → Begins i
  modifier_begins i (k.Word word entry) q h = (ap (is_mark m.CloseBrace) q, ap (is_mark m.Semicolon) q)
  modifier_begins i t q h = absurd (false≢true h)

  named_begins : (i k name : ℕ) → HasModifier s i k → IsMemberName s k name → Begins i
  named_begins i k name (inl h) named = modifier_begins i (kind s i) refl h.0.0
  named_begins i k name (inr h) named = name_begins i name (subst (λ z. IsMemberName s z name) h.1 named)

  abbrev Turn : ℕ → ℕ → List ClassMember → ℕ → Found (List ClassMember)
  Turn room n all i =
      if is_mark m.CloseBrace (kind s i) then Some (all, i + 1) else if is_mark m.Semicolon (kind s i) then read_members s (statement_readers s room) n all (i + 1)
      else (read_named s (statement_readers s room) (behind_modifier s i) >>= λ a. read_members s (statement_readers s room) n (all ++ a.0 ∷ []) a.1)

  turn_is : (room n : ℕ) (all : List ClassMember) (i : ℕ) → read_members s (statement_readers s room) (suc n) all i ≡ Turn room n all i
  unfolding read_members
  turn_is room n all i = refl

  later : (i n : ℕ) → AreSemicolons s i n → i < n → AreSemicolons s (i + 1) n
  later i n h lt = record { order = omega arith; each = λ q le less. h.each q (omega arith) less }

  abbrev behind : (rest : List ClassMember) (i j : ℕ) → AreMembers s rest i j → ℕ
  behind [] i j h = h.0
  behind (x ∷ rest) i j h = h.0

  semicolons : (rest : List ClassMember) (i j : ℕ) → (h : AreMembers s rest i j) → AreSemicolons s i (behind rest i j h)
  semicolons [] i j h = h.1
  semicolons (x ∷ rest) i j h = h.2

  skipped : (rest : List ClassMember) (i j : ℕ) → (h : AreMembers s rest i j) → i < behind rest i j h → AreMembers s rest (i + 1) j
  skipped [] i j h lt = (h.0, later i h.0 h.1 lt, h.2, h.3)
  skipped (x ∷ rest) i j h lt = (h.0, h.1, later i h.0 h.2 lt, h.3, h.4)

  abbrev Reads : ℕ → ℕ → Type 0
  Reads room n = (all rest : List ClassMember) (i j : ℕ) → AreMembers s rest i j → length s.tokens ≤ n + i → deepest_member rest ≤ 1 + room → read_members s (statement_readers s room) n all i ≡ Some (all ++ rest, j)

  -- the first of some members stands here, or their `}`
  members_at : (room n : ℕ) → Reads room n → (all rest : List ClassMember) (i j : ℕ) → (h : AreMembers s rest i j) → behind rest i j h ≡ i → length s.tokens ≤ suc n + i → deepest_member rest ≤ 1 + room → Turn room n all i ≡ Some (all ++ rest, j)
  members_at room n again all [] i j h here enough deep =
      let brace : IsMark s i m.CloseBrace = subst (λ z. IsMark s z m.CloseBrace) here h.2 in
      let end : i + 1 ≡ j = ap (λ z. z + 1) (sym here) ∙ sym h.3 in
      ap (λ x. if x then Some (all, i + 1) else if is_mark m.Semicolon (kind s i) then read_members s (statement_readers s room) n all (i + 1) else (read_named s (statement_readers s room) (behind_modifier s i) >>= λ a. read_members s (statement_readers s room) n (all ++ a.0 ∷ []) a.1)) (ap (is_mark m.CloseBrace) brace)
      ∙ ap (λ x. Some (all, x)) end ∙ ap (λ x. Some (x, j)) (sym (append-nil all))
  members_at room n again all (x ∷ rest) i j h here enough deep =
      let member : IsMember s x i h.1 = subst (λ z. IsMember s x z h.1) here h.3 in
      let r = member_reads room i x h.1 member (omega arith) in
      let begins = named_begins i r.k r.name r.modifier r.named in
      let up = modifier_le i r.k r.modifier in
      let less = r.less in
      ap (λ b. if b then Some (all, i + 1) else if is_mark m.Semicolon (kind s i) then read_members s (statement_readers s room) n all (i + 1) else (read_named s (statement_readers s room) (behind_modifier s i) >>= λ a. read_members s (statement_readers s room) n (all ++ a.0 ∷ []) a.1)) begins.0
      ∙ ap (λ b. if b then read_members s (statement_readers s room) n all (i + 1) else (read_named s (statement_readers s room) (behind_modifier s i) >>= λ a. read_members s (statement_readers s room) n (all ++ a.0 ∷ []) a.1)) begins.1
      ∙ ap (λ q. read_named s (statement_readers s room) q >>= λ a. read_members s (statement_readers s room) n (all ++ a.0 ∷ []) a.1) (behind_modifier_is i r.k r.modifier)
      ∙ ap (λ q. q >>= λ a. read_members s (statement_readers s room) n (all ++ a.0 ∷ []) a.1) r.reads
      ∙ again (all ++ x ∷ []) rest h.1 j h.4 (omega arith) (omega arith)
      ∙ ap (λ q. Some (q, j)) (append_assoc all (x ∷ []) rest)

  members_by : (room n : ℕ) → Reads room n → (all rest : List ClassMember) (i j : ℕ) → (h : AreMembers s rest i j) → (i < behind rest i j h) ⊎ (behind rest i j h ≤ i) → length s.tokens ≤ suc n + i → deepest_member rest ≤ 1 + room → Turn room n all i ≡ Some (all ++ rest, j)
  members_by room n again all rest i j h (inl lt) enough deep =
      let at : IsMark s i m.Semicolon = (semicolons rest i j h).each i (omega arith) lt in
      ap (λ b. if b then Some (all, i + 1) else if is_mark m.Semicolon (kind s i) then read_members s (statement_readers s room) n all (i + 1) else (read_named s (statement_readers s room) (behind_modifier s i) >>= λ a. read_members s (statement_readers s room) n (all ++ a.0 ∷ []) a.1)) (ap (is_mark m.CloseBrace) at)
      ∙ ap (λ b. if b then read_members s (statement_readers s room) n all (i + 1) else (read_named s (statement_readers s room) (behind_modifier s i) >>= λ a. read_members s (statement_readers s room) n (all ++ a.0 ∷ []) a.1)) (ap (is_mark m.Semicolon) at)
      ∙ again all rest (i + 1) j (skipped rest i j h lt) (omega arith) deep
  members_by room n again all rest i j h (inr le) enough deep =
      let order = (semicolons rest i j h).order in members_at room n again all rest i j h (omega arith) enough deep

  modified_in : (i k name : ℕ) → HasModifier s i k → IsMemberName s k name → i < length s.tokens
  modified_in i k name h named = let up = modifier_le i k h in let inside = member_inside k name named in omega arith

  member_in : (x : ClassMember) (i j : ℕ) → IsMember s x i j → i < length s.tokens
  member_in (Field (Declare at name shape first)) i j h = modified_in i h.0 name h.3 h.5
  member_in (Method name (Does at params gives all true)) i j h = absurd h
  member_in (Method name (Does at params gives all false)) i j h = modified_in i h.0 name h.1 h.3
  member_in (Constructor (Does at params None all false)) i j h = modified_in i h.0 h.3.0 h.1 (inl h.3.1)
  member_in (Constructor (Does at params (Some gives) all arrow)) i j h = absurd h
  member_in (Constructor (Does at params None all true)) i j h = absurd h

  members_inside : (rest : List ClassMember) (i j : ℕ) → AreMembers s rest i j → i < length s.tokens
  members_inside [] i j h = let order = h.1.order in let inside = mark_inside h.0 m.CloseBrace h.2 in omega arith
  members_inside (x ∷ rest) i j h = let order = h.2.order in let inside = member_in x h.0 h.1 h.3 in omega arith

  members_read : (room n : ℕ) → Reads room n
  members_read room zero = λ all rest i j h enough deep. absurd (let less = members_inside rest i j h in omega arith)
  members_read room (suc n) = λ all rest i j h enough deep. turn_is room n all i ∙ members_by room n (members_read room n) all rest i j h (cases_lt i (behind rest i j h)) enough deep

  base_reads : (base : Option ℕ) (base_at i j : ℕ) → HasBase s base base_at i j → IsMark s j m.OpenBrace → read_base s (is_word w.Extends (kind s i)) i ≡ Some ((base, base_at), j)
  base_reads None base_at i j h brace =
      ap (λ x. read_base s x i) (ap (λ x. is_word w.Extends (kind s x)) h.1 ∙ ap (is_word w.Extends) brace) ∙ base_same base_at i j h.0 h.1
    where
      base_same : (base_at i j : ℕ) → base_at ≡ 0 → i ≡ j → ◌≡◌ {A = Found (Option ℕ × ℕ)} (Some ((None, 0), i)) (Some ((None, base_at), j))
      base_same base_at i j p q = ap (λ x. Some ((None, x), i)) (sym p) ∙ ap (λ x. Some ((None, base_at), x)) q
  base_reads (Some base) base_at i j h brace =
      ap (λ x. read_base s x i) (ap (is_word w.Extends) h.0.1) ∙ ap (λ r. r >>= λ base. Some ((Some base, place s (i + 1)), i + 2)) (name_of_is (kind s (i + 1)) base h.1)
      ∙ base_same base (place s (i + 1)) base_at (i + 2) j (sym h.2) (sym h.3)
    where
      base_same : (base a b i j : ℕ) → a ≡ b → i ≡ j → ◌≡◌ {A = Found (Option ℕ × ℕ)} (Some ((Some base, a), i)) (Some ((Some base, b), j))
      base_same base a b i j p q = ap (λ x. Some ((Some base, x), i)) p ∙ ap (λ x. Some ((Some base, b), x)) q

  class_reads : (room at name : ℕ) (base : Option ℕ) (base_at : ℕ) (members : List ClassMember) (i n j : ℕ) → at ≡ place s i → IsName s i name → HasBase s base base_at (i + 1) n → IsMark s n m.OpenBrace
      → AreMembers s members (n + 1) j → deepest_member members ≤ 1 + room → read_class s (statement_readers s room) i ≡ Some (Class at name base base_at members, j)
  unfolding read_class
  class_reads room at name base base_at members i n j here named parent brace held deep =
      ap (λ r. r >>= λ name. read_base s (is_word w.Extends (kind s (i + 1))) (i + 1) >>= λ base. when (is_mark m.OpenBrace (kind s base.1)) (read_members s (statement_readers s room) (length s.tokens) [] (base.1 + 1) >>= λ all. Some (Class (place s i) name base.0.0 base.0.1 all.0, all.1))) (name_of_is (kind s i) name named)
      ∙ ap (λ r. r >>= λ base. when (is_mark m.OpenBrace (kind s base.1)) (read_members s (statement_readers s room) (length s.tokens) [] (base.1 + 1) >>= λ all. Some (Class (place s i) name base.0.0 base.0.1 all.0, all.1))) (base_reads base base_at (i + 1) n parent brace)
      ∙ ap (λ b. when b (read_members s (statement_readers s room) (length s.tokens) [] (n + 1) >>= λ all. Some (Class (place s i) name base base_at all.0, all.1))) (ap (is_mark m.OpenBrace) brace)
      ∙ ap (λ r. r >>= λ all. Some (Class (place s i) name base base_at all.0, all.1)) (members_read room (length s.tokens) [] members (n + 1) j held (omega arith) deep)
      ∙ ap (λ x. Some (Class x name base base_at members, j)) (sym here)

  function_reads : (room at name : ℕ) (params : List Parameter) (gives : Option Annotation) (all : Statements) (i j : ℕ) → at ≡ place s i → IsName s i name → IsRoutine s params gives false (InBlock s true false all) (i + 1) j
      → deepest_statement all ≤ room → read_function s (statement_readers s room) i ≡ Some (Function name (Does at params gives all false), j)
  unfolding read_function
  function_reads room at name params gives all i j here named held deep =
      ap (λ r. r >>= λ name. read_routine s (statement_readers s room) (place s i) (i + 1) >>= λ r. Some (Function name r.0, r.1)) (name_of_is (kind s i) name named)
      ∙ ap (λ r. r >>= λ r. Some (Function name r.0, r.1)) (routine_reads room (place s i) (i + 1) params gives all j held deep)
      ∙ ap (λ x. Some (Function name (Does x params gives all false), j)) (sym here)

  main_reads : (room i : ℕ) (a : Statement) (j : ℕ) → IsStatement s false false a i j → statement_nesting a ≤ room → read_main (statement_readers s room) i ≡ Some (Main a, j)
  unfolding read_main
  main_reads room i a j h deep = ap (λ r. r >>= λ a. Some (Main a.0, a.1)) (statement_reads room false false i a j h deep)

  member_spans : (x : ClassMember) (i j : ℕ) → IsMember s x i j → (i < j) × (j ≤ length s.tokens)
  member_spans (Field (Declare at name shape first)) i j h =
      let inside = member_inside h.0 name h.5 in let up = modifier_le i h.0 h.3 in
      let spans = field_spans shape first (field_continues s (Declare at name shape first) h.2) (h.0 + 1) h.1 h.2 j h.6 h.7 h.8 (omega arith) in
      let less = spans.0 in (omega arith, spans.1)
  member_spans (Method name (Does at params gives all true)) i j h = absurd h
  member_spans (Method name (Does at params gives all false)) i j h =
      let up = modifier_le i h.0 h.1 in let spans = routine_less params gives all (h.0 + 1) j h.5 in let less = spans.0 in (omega arith, spans.1)
  member_spans (Constructor (Does at params None all false)) i j h =
      let up = modifier_le i h.0 h.1 in let spans = routine_less params None all (h.0 + 1) j h.4 in let less = spans.0 in (omega arith, spans.1)
  member_spans (Constructor (Does at params (Some gives) all arrow)) i j h = absurd h
  member_spans (Constructor (Does at params None all true)) i j h = absurd h

  members_spans : (rest : List ClassMember) (i j : ℕ) → AreMembers s rest i j → (i < j) × (j ≤ length s.tokens)
  members_spans [] i j h = let order = h.1.order in let inside = mark_inside h.0 m.CloseBrace h.2 in let end = h.3 in (omega arith, omega arith)
  members_spans (x ∷ rest) i j h =
      let order = h.2.order in let one = member_spans x h.0 h.1 h.3 in let less = one.0 in let two = members_spans rest h.1 j h.4 in let more = two.0 in (omega arith, two.1)

  base_le : (base : Option ℕ) (base_at i j : ℕ) → HasBase s base base_at i j → i ≤ j
  base_le None base_at i j h = omega (arith, h.1)
  base_le (Some base) base_at i j h = omega (arith, h.3)

  class_spans : (base : Option ℕ) (base_at : ℕ) (members : List ClassMember) (i n j : ℕ) → HasBase s base base_at (i + 2) n → AreMembers s members (n + 1) j → (i < j) × (j ≤ length s.tokens)
  class_spans base base_at members i n j parent held =
      let up = base_le base base_at (i + 2) n parent in let spans = members_spans members (n + 1) j held in let less = spans.0 in (omega arith, spans.1)

  part_inside : (x : TopLevel) (i j : ℕ) → IsPart s x i j → i < length s.tokens
  part_inside (Class at name base base_at members) i j h = let spans = class_spans base base_at members i h.0 j h.4 h.6 in let less = spans.0 in let inside = spans.1 in omega arith
  part_inside (Function name (Does at params gives all true)) i j h = absurd h
  part_inside (Function name (Does at params gives all false)) i j h = let spans = routine_less params gives all (i + 2) j h.3 in let less = spans.0 in let inside = spans.1 in omega arith
  part_inside (Main a) i j h = let spans = statement_less i a j h in let less = spans.0 in let inside = spans.1 in omega arith

  -- A part that is spelled is read, and doesn't begin with Finish.
  record PartReads (room i : ℕ) (x : TopLevel) (j : ℕ) : Type 0 where
    reads : read_part s room i (kind s i) ≡ Some (x, j)
    goes_on : is_finish (kind s i) ≡ false
    less : i < j
    inside : j ≤ length s.tokens

  part_reads : (room i : ℕ) (x : TopLevel) (j : ℕ) → 2 ≤ room → IsPart s x i j → top_level_nesting x ≤ room → PartReads room i x j
  part_reads room i (Class at name base base_at members) j two h deep =
      let at_word : kind s i ≡ k.Word w.Class h.1.0 = h.1.1 in
      let two' : i + 2 ≡ i + 1 + 1 = omega arith in
      let parent : HasBase s base base_at (i + 1 + 1) h.0 = subst (λ z. HasBase s base base_at z h.0) two' h.4 in
      let spans = class_spans base base_at members i h.0 j h.4 h.6 in
      record {
        reads = ap (read_part s room i) at_word ∙ class_reads (room - 2) at name base base_at members (i + 1) h.0 j h.2 h.3 parent h.5 h.6 (omega arith);
        goes_on = ap is_finish at_word;
        less = spans.0;
        inside = spans.1;
      }
  part_reads room i (Function name (Does at params gives all true)) j two h deep = absurd h
  part_reads room i (Function name (Does at params gives all false)) j two h deep =
      let at_word : kind s i ≡ k.Word w.Function h.0.0 = h.0.1 in
      let two' : i + 2 ≡ i + 1 + 1 = omega arith in
      let held : IsRoutine s params gives false (InBlock s true false all) (i + 1 + 1) j = subst (λ z. IsRoutine s params gives false (InBlock s true false all) z j) two' h.3 in
      let spans = routine_less params gives all (i + 2) j h.3 in
      let less = spans.0 in
      record {
        reads = ap (read_part s room i) at_word ∙ function_reads (room - 1) at name params gives all (i + 1) j h.1 h.2 held (omega arith);
        goes_on = ap is_finish at_word;
        less = omega arith;
        inside = spans.1;
      }
  part_reads room i (Main a) j two h deep =
      let begin = begins room i a j h in
      let spans = statement_less i a j h in
      record { reads = begin.0 ∙ main_reads room i a j h deep; goes_on = begin.1; less = spans.0; inside = spans.1 }

  parts_inside : (rest : Program) (i : ℕ) → AreParts s rest i → i < length s.tokens
  parts_inside [] i h = omega (arith, h.1)
  parts_inside (x ∷ rest) i h = part_inside x i h.0 h.1

  abbrev PartsRead : ℕ → ℕ → Type 0
  PartsRead room n = (all rest : Program) (i : ℕ) → AreParts s rest i → length s.tokens ≤ n + i → deepest_top_level rest ≤ room → read_parts s room n all i ≡ Some (all ++ rest)

  abbrev PartTurn : ℕ → ℕ → Program → ℕ → Option Program
  PartTurn room n all i = if is_finish (kind s i) then when (length s.tokens == i + 1) (Some all) else (read_part s room i (kind s i) >>= λ a. read_parts s room n (all ++ a.0 ∷ []) a.1)

  part_turn : (room n : ℕ) (all : Program) (i : ℕ) → read_parts s room (suc n) all i ≡ PartTurn room n all i
  unfolding read_parts
  part_turn room n all i = refl

  parts_by : (room n : ℕ) → 2 ≤ room → PartsRead room n → (all rest : Program) (i : ℕ) → AreParts s rest i → length s.tokens ≤ suc n + i → deepest_top_level rest ≤ room → PartTurn room n all i ≡ Some (all ++ rest)
  parts_by room n two again all [] i h enough deep =
      ap (λ b. if b then when (length s.tokens == i + 1) (Some all) else (read_part s room i (kind s i) >>= λ a. read_parts s room n (all ++ a.0 ∷ []) a.1)) (ap is_finish h.0)
      ∙ ap (λ b. when b (Some all)) ((eq-eqb (length s.tokens) (i + 1) h.1)) ∙ ap Some (sym (append-nil all))
  parts_by room n two again all (x ∷ rest) i h enough deep =
      let r = part_reads room i x h.0 two h.1 (omega arith) in
      let less = r.less in
      ap (λ b. if b then when (length s.tokens == i + 1) (Some all) else (read_part s room i (kind s i) >>= λ a. read_parts s room n (all ++ a.0 ∷ []) a.1)) r.goes_on
      ∙ ap (λ q. q >>= λ a. read_parts s room n (all ++ a.0 ∷ []) a.1) r.reads
      ∙ again (all ++ x ∷ []) rest h.0 h.2 (omega arith) (omega arith)
      ∙ ap Some (append_assoc all (x ∷ []) rest)

  pub parts_read : (room n : ℕ) → 2 ≤ room → PartsRead room n
  parts_read room zero two = λ all rest i h enough deep. absurd (let less = parts_inside rest i h in omega arith)
  parts_read room (suc n) two = λ all rest i h enough deep. part_turn room n all i ∙ parts_by room n two (parts_read room n two) all rest i h enough deep

  -- A whole text that is spelled within the nesting is read.
  pub program_reads : (program : Program) → IsProgram s program → read_program s ≡ Some program
  unfolding read_program
  program_reads program h = let deep = h.nested in parts_read part_nesting (length s.tokens) (omega arith) [] program 0 h.spelled (omega arith) (omega arith)
