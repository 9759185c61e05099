-- Statements that are read are spelled, where what stands deeper is.
use Rattle.std.proofs.Common.{◌≡◌, ℕ, suc, ◌+◌, ◌≤◌, refl, sym, ap, ◌∙◌, subst, arith, inl, inr, ltb-true, ltb-false}
use Rattle.std.specs.Prelude.{Bool, true, false, nat_lt, if◌then◌else◌, Option, Some, None, ◌⊎◌, length}
use Rattle.std.proofs.lemmas.Bool.{false≢true}
use lib.Chars.{codes}
use Rattle.sts_lexer.specs.declared.marks.Mark.TheVariants as m
use Rattle.sts_lexer.specs.declared.words.Word.{Word}
use Rattle.sts_lexer.specs.declared.words.Word.TheVariants as w
use Rattle.sts_lexer.specs.declared.token.TokenKind.{TokenKind}
use Rattle.sts_lexer.specs.declared.token.TokenKind.TheVariants as k
use Rattle.sts_syntax.specs.Trees.{Tree, OptionalTree, absent, present, Statement, Block, Let, IfOnly, IfElse, While, DoWhile, For, ForOf, Return, Break, Continue, Plain, Empty, OptionalStatement, omitted, written, Declarations}
use Rattle.sts_syntax.specs.Nesting.{nesting, optional_nesting, statement_nesting, deepest_statement, optional_statement_nesting, deepest_declaration}
use Rattle.sts_grammar.specs.Source.{Source, kind, place, IsMark, IsName, IsSpelled, is_mark, is_word}
use Rattle.sts_grammar.specs.Operands.{IsOperand, IsLet, BeginsPlain}
use Rattle.sts_grammar.specs.Ends.{binds, continues, declarations_continue}
use Rattle.sts_grammar.specs.Spells.{IsBare, IsOptional, IsStatement, IsFirst}
use Rattle.sts_grammar.specs.Found.{Found, ◌>>=◌, when, name_of, let_of, is_of}
use Rattle.sts_grammar.specs.ReadExpressions.{Readers, read_block}
use Rattle.sts_grammar.specs.ReadStatements.{read_end, read_condition, read_let, read_optional, read_first, read_optional_first, read_step, read_three, read_for_of, of_head, read_for_by, read_for, read_else, read_if, skip_semicolon, read_do, read_returned, read_plain, read_let_statement, read_while, read_word_statement, read_statement}
use Rattle.sts_grammar.proofs.Tokens.{bind_ok, when_ok, moved, both_are, never, mark_is, mark_isnt, word_is, word_isnt, name_is, let_is, is_of_is}
use Rattle.sts_grammar.proofs.SoundLists.{block_ok}
use Rattle.sts_grammar.proofs.SoundPrimaries.{AreSound}
use Rattle.sts_grammar.proofs.SoundDeclarations.{nothing_binds, nothing_continues, end_ok, no_end, AreWhole, let_ok}

-- an expression as a statement may begin so
abbrev begins_plain : TokenKind → Bool
begins_plain (k.Mark m.OpenBrace) = false
begins_plain (k.Word w.Function name) = false
begins_plain (k.Word w.Class name) = false
begins_plain other = true

plain_begins : (s : Source) (i : ℕ) → begins_plain (kind s i) ≡ true → BeginsPlain s i
plain_begins s i h = record {
  no_block = λ e. false≢true (sym (ap begins_plain e) ∙ h);
  no_function = λ e. false≢true (sym (ap begins_plain e.1) ∙ h);
  no_class = λ e. false≢true (sym (ap begins_plain e.1) ∙ h);
}

-- a condition in parentheses from i on, where n is behind the `(` and j behind the `)`
abbrev IsCondition : Source → (room : ℕ) → Tree → (i n j : ℕ) → Type 0
IsCondition s room c i n j =
    (o : ℕ) × IsMark s i m.OpenParenthesis × IsOperand s 1 c (IsBare s c) n o × IsMark s o m.CloseParenthesis × (j ≡ o + 1) × (nesting c ≤ room)

-- a statement with at most one more level of nesting
abbrev pub IsDone : Source → (room : ℕ) (f l : Bool) → Statement → ℕ → ℕ → Type 0
IsDone s room f l a i j = IsStatement s f l a i j × (statement_nesting a ≤ suc room)

of_head_ok : (s : Source) (i : ℕ) (head : Bool × ℕ) → of_head s i ≡ Some head → IsLet s head.0 i × IsName s (i + 1) head.1 × IsSpelled s (i + 2) (codes "of")
unfolding of_head
of_head_ok s i head h =
    let x = bind_ok (let_of (kind s i)) (λ fixed. name_of (kind s (i + 1)) >>= λ name. when (is_of s (kind s (i + 2))) (Some (fixed, name))) head h in
    let y = bind_ok (name_of (kind s (i + 1))) (λ name. when (is_of s (kind s (i + 2))) (Some (x.0, name))) head x.2 in
    let z = when_ok (is_of s (kind s (i + 2))) (Some (x.0, y.0)) head y.2 in
    moved (λ (head : Bool × ℕ). IsLet s head.0 i × IsName s (i + 1) head.1 × IsSpelled s (i + 2) (codes "of")) (x.0, y.0) head z.1
    (let_is s i (kind s i) x.0 refl x.1, name_is (kind s (i + 1)) y.0 y.1, is_of_is s (i + 2) (kind s (i + 2)) refl z.0)

skip_by : (s : Source) (o i j : ℕ) → i ≡ o + 1 → (b : Bool) → is_mark m.Semicolon (kind s i) ≡ b → j ≡ (if b then i + 1 else i) →
    (IsMark s (o + 1) m.Semicolon × (j ≡ o + 2)) ⊎ (¬ (IsMark s (o + 1) m.Semicolon) × (j ≡ o + 1))
skip_by s o i j e true q h = inl (subst (λ (x : ℕ). IsMark s x m.Semicolon) e (mark_is m.Semicolon (kind s i) q), omega arith)
skip_by s o i j e false q h = inr (subst (λ (x : ℕ). ¬ (IsMark s x m.Semicolon)) e (mark_isnt m.Semicolon (kind s i) q), omega arith)

module _ (s : Source) (room : ℕ) (readers : Readers) (ok : AreSound s (length s.tokens) room readers) where
  whole : (i : ℕ) (e : Tree) (j : ℕ) → readers.expr 1 i ≡ Some (e, j) → IsOperand s 1 e (IsBare s e) i j × (nesting e ≤ room) × (binds s j ≡ 0)
  whole i e j h = let r = ok.expr_ok 1 i e j h (omega arith) (omega arith) in (r.0, r.1, nothing_binds s j r.2)

  condition_ok : (i n : ℕ) → i + 1 ≡ n → (c : Tree) (j : ℕ) → read_condition s (readers.expr 1) i ≡ Some (c, j) → IsCondition s room c i n j
  unfolding read_condition
  condition_ok i n e c j h =
      let o = when_ok (is_mark m.OpenParenthesis (kind s i)) (readers.expr 1 (i + 1) >>= λ c. when (is_mark m.CloseParenthesis (kind s c.1)) (Some (c.0, c.1 + 1))) (c, j) h in
      let r = bind_ok (readers.expr 1 (i + 1)) (λ c. when (is_mark m.CloseParenthesis (kind s c.1)) (Some (c.0, c.1 + 1))) (c, j) o.1 in
      let p = when_ok (is_mark m.CloseParenthesis (kind s r.0.1)) (Some (r.0.0, r.0.1 + 1)) (c, j) r.2 in
      let a = whole (i + 1) r.0.0 r.0.1 r.1 in
      moved (λ (z : Tree × ℕ). IsCondition s room z.0 i n z.1) (r.0.0, r.0.1 + 1) (c, j) p.1
      (r.0.1, mark_is m.OpenParenthesis (kind s i) o.0, subst (λ (x : ℕ). IsOperand s 1 r.0.0 (IsBare s r.0.0) x r.0.1) e a.0, mark_is m.CloseParenthesis (kind s r.0.1) p.0, refl, a.1)

  -- a statement from i on that is read behind another token
  deeper_ok : (f l : Bool) (i n : ℕ) → i ≡ n → (a : Statement) (j : ℕ) → readers.stmt f l i ≡ Some (a, j) → IsStatement s f l a n j × (statement_nesting a ≤ room)
  deeper_ok f l i n e a j h = ok.stmt_ok f l n a j (subst (λ (x : ℕ). readers.stmt f l x ≡ Some (a, j)) e h)

  -- 1. `if`, `while` and `do`.

  else_ok : (f l : Bool) (i entry : ℕ) → kind s i ≡ k.Word w.If entry → (c : Tree) (p : ℕ) → IsCondition s room c (i + 1) (i + 2) p → (a : Statement) (n : ℕ) → readers.stmt f l p ≡ Some (a, n) → (b : Bool) → is_word w.Else (kind s n) ≡ b →
      (x : Statement) (j : ℕ) → read_else (readers.stmt f l) (place s i) c a n b ≡ Some (x, j) → IsDone s room f l x i j
  else_ok f l i entry q c p held a n found true e x j h =
      let r = bind_ok (readers.stmt f l (n + 1)) (λ b. Some (IfElse (place s i) c a b.0, b.1)) (x, j) h in
      let y = deeper_ok f l p (held.0 + 1) held.4 a n found in
      let z = deeper_ok f l (n + 1) (n + 1) refl r.0.0 r.0.1 r.1 in
      let c_deep : nesting c ≤ room = held.5 in
      let a_deep : statement_nesting a ≤ room = y.1 in
      let b_deep : statement_nesting r.0.0 ≤ room = z.1 in
      moved (λ (z : Statement × ℕ). IsDone s room f l z.0 i z.1) (IfElse (place s i) c a r.0.0, r.0.1) (x, j) r.2
      ((held.0, n, refl, (entry, q), held.1, held.2, held.3, y.0, word_is s n w.Else (kind s n) refl e, z.0), omega arith)
  else_ok f l i entry q c p held a n found false e x j h =
      let y = deeper_ok f l p (held.0 + 1) held.4 a n found in
      let c_deep : nesting c ≤ room = held.5 in
      let a_deep : statement_nesting a ≤ room = y.1 in
      moved (λ (z : Statement × ℕ). IsDone s room f l z.0 i z.1) (IfOnly (place s i) c a, n) (x, j) h
      ((held.0, refl, (entry, q), held.1, held.2, held.3, y.0, word_isnt s n w.Else e), omega arith)

  if_ok : (f l : Bool) (i entry : ℕ) → kind s i ≡ k.Word w.If entry → (x : Statement) (j : ℕ) → read_if s readers f l (place s i) (i + 1) ≡ Some (x, j) → IsDone s room f l x i j
  unfolding read_if
  if_ok f l i entry q x j h =
      let c = bind_ok (read_condition s (readers.expr 1) (i + 1)) (λ c. readers.stmt f l c.1 >>= λ a. read_else (readers.stmt f l) (place s i) c.0 a.0 a.1 (is_word w.Else (kind s a.1))) (x, j) h in
      let a = bind_ok (readers.stmt f l c.0.1) (λ a. read_else (readers.stmt f l) (place s i) c.0.0 a.0 a.1 (is_word w.Else (kind s a.1))) (x, j) c.2 in
      else_ok f l i entry q c.0.0 c.0.1 (condition_ok (i + 1) (i + 2) (omega arith) c.0.0 c.0.1 c.1) a.0.0 a.0.1 a.1 (is_word w.Else (kind s a.0.1)) (refl {a = is_word w.Else (kind s a.0.1)}) x j a.2

  while_ok : (f l : Bool) (i entry : ℕ) → kind s i ≡ k.Word w.While entry → (x : Statement) (j : ℕ) → read_while s readers f (place s i) (i + 1) ≡ Some (x, j) → IsDone s room f l x i j
  unfolding read_while
  while_ok f l i entry q x j h =
      let c = bind_ok (read_condition s (readers.expr 1) (i + 1)) (λ c. readers.stmt f true c.1 >>= λ a. Some (While (place s i) c.0 a.0, a.1)) (x, j) h in
      let a = bind_ok (readers.stmt f true c.0.1) (λ a. Some (While (place s i) c.0.0 a.0, a.1)) (x, j) c.2 in
      let held = condition_ok (i + 1) (i + 2) (omega arith) c.0.0 c.0.1 c.1 in
      let y = deeper_ok f true c.0.1 (held.0 + 1) held.4 a.0.0 a.0.1 a.1 in
      let c_deep : nesting c.0.0 ≤ room = held.5 in
      let a_deep : statement_nesting a.0.0 ≤ room = y.1 in
      moved (λ (z : Statement × ℕ). IsDone s room f l z.0 i z.1) (While (place s i) c.0.0 a.0.0, a.0.1) (x, j) a.2
      ((held.0, refl, (entry, q), held.1, held.2, held.3, y.0), omega arith)

  do_ok : (f l : Bool) (i entry : ℕ) → kind s i ≡ k.Word w.Do entry → (x : Statement) (j : ℕ) → read_do s readers f (place s i) (i + 1) ≡ Some (x, j) → IsDone s room f l x i j
  unfolding read_do
  do_ok f l i entry q x j h =
      let a = bind_ok (readers.stmt f true (i + 1)) (λ a. when (is_word w.While (kind s a.1)) (read_condition s (readers.expr 1) (a.1 + 1) >>= λ c. Some (DoWhile (place s i) a.0 c.0, skip_semicolon s c.1))) (x, j) h in
      let v = when_ok (is_word w.While (kind s a.0.1)) (read_condition s (readers.expr 1) (a.0.1 + 1) >>= λ c. Some (DoWhile (place s i) a.0.0 c.0, skip_semicolon s c.1)) (x, j) a.2 in
      let c = bind_ok (read_condition s (readers.expr 1) (a.0.1 + 1)) (λ c. Some (DoWhile (place s i) a.0.0 c.0, skip_semicolon s c.1)) (x, j) v.1 in
      let y = deeper_ok f true (i + 1) (i + 1) refl a.0.0 a.0.1 a.1 in
      let held = condition_ok (a.0.1 + 1) (a.0.1 + 2) (omega arith) c.0.0 c.0.1 c.1 in
      let c_deep : nesting c.0.0 ≤ room = held.5 in
      let a_deep : statement_nesting a.0.0 ≤ room = y.1 in
      moved (λ (z : Statement × ℕ). IsDone s room f l z.0 i z.1) (DoWhile (place s i) a.0.0 c.0.0, skip_semicolon s c.0.1) (x, j) c.2
      ((a.0.1, held.0, refl, (entry, q), y.0, word_is s a.0.1 w.While (kind s a.0.1) refl v.0, held.1, held.2, held.3, skip_by s held.0 c.0.1 (skip_semicolon s c.0.1) held.4 (is_mark m.Semicolon (kind s c.0.1)) (refl {a = is_mark m.Semicolon (kind s c.0.1)}) (refl {a = skip_semicolon s c.0.1})), omega arith)

  -- 2. `for`.

  optional_ok : (b : Bool) (i : ℕ) (x : OptionalTree) (j : ℕ) → read_optional (readers.expr 1) b i ≡ Some (x, j) → IsOptional s x i j × (optional_nesting x ≤ room)
  optional_ok true i x j h =
      moved (λ (z : OptionalTree × ℕ). IsOptional s z.0 i z.1 × (optional_nesting z.0 ≤ room)) (absent, i) (x, j) h (refl, omega arith)
  optional_ok false i x j h =
      let r = bind_ok (readers.expr 1 i) (λ a. Some (present a.0, a.1)) (x, j) h in
      let a = whole i r.0.0 r.0.1 r.1 in
      moved (λ (z : OptionalTree × ℕ). IsOptional s z.0 i z.1 × (optional_nesting z.0 ≤ room)) (present r.0.0, r.0.1) (x, j) r.2 (a.0, a.1)

  first_by : (i : ℕ) (fixed : Option Bool) → let_of (kind s i) ≡ fixed → (x : OptionalStatement) (j : ℕ) → read_first s room (readers.expr 1) i fixed ≡ Some (x, j) → IsFirst s x i j × (optional_statement_nesting x ≤ room)
  first_by i (Some fixed) q x j h =
      let r = bind_ok (read_let s (readers.expr 1) fixed (i + 1)) (λ each. when (nat_lt (deepest_declaration each.0) room) (Some (written (Let (place s i) fixed each.0), each.1))) (x, j) h in
      let c = when_ok (nat_lt (deepest_declaration r.0.0) room) (Some (written (Let (place s i) fixed r.0.0), r.0.1)) (x, j) r.2 in
      let a = let_ok s room (readers.expr 1) whole fixed (i + 1) r.0.0 r.0.1 r.1 in
      let deep = ltb-true (deepest_declaration r.0.0) room c.0 in
      moved (λ (z : OptionalStatement × ℕ). IsFirst s z.0 i z.1 × (optional_statement_nesting z.0 ≤ room)) (written (Let (place s i) fixed r.0.0), r.0.1) (x, j) c.1
      ((refl, let_is s i (kind s i) fixed refl q, a.0), omega arith)
  first_by i None q x j h =
      let r = bind_ok (readers.expr 1 i) (λ a. when (nat_lt (nesting a.0) room) (Some (written (Plain (place s i) a.0), a.1))) (x, j) h in
      let c = when_ok (nat_lt (nesting r.0.0) room) (Some (written (Plain (place s i) r.0.0), r.0.1)) (x, j) r.2 in
      let a = whole i r.0.0 r.0.1 r.1 in
      let deep = ltb-true (nesting r.0.0) room c.0 in
      moved (λ (z : OptionalStatement × ℕ). IsFirst s z.0 i z.1 × (optional_statement_nesting z.0 ≤ room)) (written (Plain (place s i) r.0.0), r.0.1) (x, j) c.1
      ((refl, a.0), omega arith)

  optional_first_by : (i : ℕ) (b : Bool) (x : OptionalStatement) (j : ℕ) → (if b then Some (omitted, i) else read_first s room (readers.expr 1) i (let_of (kind s i))) ≡ Some (x, j) → IsFirst s x i j × (optional_statement_nesting x ≤ room)
  optional_first_by i true x j h =
      moved (λ (z : OptionalStatement × ℕ). IsFirst s z.0 i z.1 × (optional_statement_nesting z.0 ≤ room)) (omitted, i) (x, j) h (refl, omega arith)
  optional_first_by i false x j h = first_by i (let_of (kind s i)) refl x j h

  optional_first_ok : (i : ℕ) (x : OptionalStatement) (j : ℕ) → read_optional_first s room (readers.expr 1) i ≡ Some (x, j) → IsFirst s x i j × (optional_statement_nesting x ≤ room)
  unfolding read_optional_first
  optional_first_ok i x j h = optional_first_by i (is_mark m.Semicolon (kind s i)) x j h

  step_ok : (f : Bool) (at : ℕ) (first : OptionalStatement) (c : OptionalTree) (i : ℕ) (x : Statement) (j : ℕ) → read_step s readers f at first c i ≡ Some (x, j) →
      (step : OptionalTree) × (a : Statement) × (p : ℕ) × (x ≡ For at first c step a) × IsOptional s step i p × IsMark s p m.CloseParenthesis × IsStatement s f true a (p + 1) j × (optional_nesting step ≤ room) × (statement_nesting a ≤ room)
  unfolding read_step
  step_ok f at first c i x j h =
      let r = bind_ok (read_optional (readers.expr 1) (is_mark m.CloseParenthesis (kind s i)) i) (λ step. when (is_mark m.CloseParenthesis (kind s step.1)) (readers.stmt f true (step.1 + 1) >>= λ a. Some (For at first c step.0 a.0, a.1))) (x, j) h in
      let p = when_ok (is_mark m.CloseParenthesis (kind s r.0.1)) (readers.stmt f true (r.0.1 + 1) >>= λ a. Some (For at first c r.0.0 a.0, a.1)) (x, j) r.2 in
      let a = bind_ok (readers.stmt f true (r.0.1 + 1)) (λ a. Some (For at first c r.0.0 a.0, a.1)) (x, j) p.1 in
      let step = optional_ok (is_mark m.CloseParenthesis (kind s i)) i r.0.0 r.0.1 r.1 in
      let y = deeper_ok f true (r.0.1 + 1) (r.0.1 + 1) refl a.0.0 a.0.1 a.1 in
      let same = both_are (For at first c r.0.0 a.0.0) a.0.1 x j a.2 in (
        r.0.0,
        a.0.0,
        r.0.1,
        sym same.0,
        step.0,
        mark_is m.CloseParenthesis (kind s r.0.1) p.0,
        subst (IsStatement s f true a.0.0 (r.0.1 + 1)) same.1 y.0,
        step.1,
        y.1,
      )

  three_ok : (f l : Bool) (i entry : ℕ) → kind s i ≡ k.Word w.For entry → IsMark s (i + 1) m.OpenParenthesis → (x : Statement) (j : ℕ) → read_three s room readers f (place s i) (i + 2) ≡ Some (x, j) → IsDone s room f l x i j
  unfolding read_three
  three_ok f l i entry q opens x j h =
      let first = bind_ok (read_optional_first s room (readers.expr 1) (i + 2)) (λ first. when (is_mark m.Semicolon (kind s first.1)) (read_optional (readers.expr 1) (is_mark m.Semicolon (kind s (first.1 + 1))) (first.1 + 1) >>= λ c. when (is_mark m.Semicolon (kind s c.1)) (read_step s readers f (place s i) first.0 c.0 (c.1 + 1)))) (x, j) h in
      let one = when_ok (is_mark m.Semicolon (kind s first.0.1)) (read_optional (readers.expr 1) (is_mark m.Semicolon (kind s (first.0.1 + 1))) (first.0.1 + 1) >>= λ c. when (is_mark m.Semicolon (kind s c.1)) (read_step s readers f (place s i) first.0.0 c.0 (c.1 + 1))) (x, j) first.2 in
      let c = bind_ok (read_optional (readers.expr 1) (is_mark m.Semicolon (kind s (first.0.1 + 1))) (first.0.1 + 1)) (λ c. when (is_mark m.Semicolon (kind s c.1)) (read_step s readers f (place s i) first.0.0 c.0 (c.1 + 1))) (x, j) one.1 in
      let two = when_ok (is_mark m.Semicolon (kind s c.0.1)) (read_step s readers f (place s i) first.0.0 c.0.0 (c.0.1 + 1)) (x, j) c.2 in
      let y = optional_first_ok (i + 2) first.0.0 first.0.1 first.1 in
      let z = optional_ok (is_mark m.Semicolon (kind s (first.0.1 + 1))) (first.0.1 + 1) c.0.0 c.0.1 c.1 in
      let r = step_ok f (place s i) first.0.0 c.0.0 (c.0.1 + 1) x j two.1 in
      let first_deep : optional_statement_nesting first.0.0 ≤ room = y.1 in
      let c_deep : optional_nesting c.0.0 ≤ room = z.1 in
      let step_deep : optional_nesting r.0 ≤ room = r.7 in
      let a_deep : statement_nesting r.1 ≤ room = r.8 in
      subst (λ (z : Statement). IsDone s room f l z i j) (sym r.3) (
        (
          first.0.1,
          c.0.1,
          r.2,
          refl,
          (entry, q),
          opens,
          y.0,
          mark_is m.Semicolon (kind s first.0.1) one.0,
          z.0,
          mark_is m.Semicolon (kind s c.0.1) two.0,
          r.4,
          r.5,
          r.6,
        ),
        omega arith,
      )

  for_of_ok : (f l : Bool) (i entry : ℕ) → kind s i ≡ k.Word w.For entry → IsMark s (i + 1) m.OpenParenthesis → (fixed : Bool) (name : ℕ) → IsLet s fixed (i + 2) → IsName s (i + 3) name → IsSpelled s (i + 4) (codes "of") →
      (x : Statement) (j : ℕ) → read_for_of s readers f (place s i) fixed name (i + 5) ≡ Some (x, j) → IsDone s room f l x i j
  unfolding read_for_of
  for_of_ok f l i entry q opens fixed name let_at name_at of_at x j h =
      let r = bind_ok (readers.expr 1 (i + 5)) (λ list. when (is_mark m.CloseParenthesis (kind s list.1)) (readers.stmt f true (list.1 + 1) >>= λ a. Some (ForOf (place s i) fixed name list.0 a.0, a.1))) (x, j) h in
      let p = when_ok (is_mark m.CloseParenthesis (kind s r.0.1)) (readers.stmt f true (r.0.1 + 1) >>= λ a. Some (ForOf (place s i) fixed name r.0.0 a.0, a.1)) (x, j) r.2 in
      let a = bind_ok (readers.stmt f true (r.0.1 + 1)) (λ a. Some (ForOf (place s i) fixed name r.0.0 a.0, a.1)) (x, j) p.1 in
      let list = whole (i + 5) r.0.0 r.0.1 r.1 in
      let y = deeper_ok f true (r.0.1 + 1) (r.0.1 + 1) refl a.0.0 a.0.1 a.1 in
      let list_deep : nesting r.0.0 ≤ room = list.1 in
      let a_deep : statement_nesting a.0.0 ≤ room = y.1 in
      moved (λ (z : Statement × ℕ). IsDone s room f l z.0 i z.1) (ForOf (place s i) fixed name r.0.0 a.0.0, a.0.1) (x, j) a.2
      ((r.0.1, refl, (entry, q), opens, let_at, name_at, of_at, list.0, mark_is m.CloseParenthesis (kind s r.0.1) p.0, y.0), omega arith)

  for_by : (f l : Bool) (i entry : ℕ) → kind s i ≡ k.Word w.For entry → IsMark s (i + 1) m.OpenParenthesis → (head : Option (Bool × ℕ)) → of_head s (i + 2) ≡ head → (x : Statement) (j : ℕ) → read_for_by s room readers f (place s i) (i + 2) head ≡ Some (x, j) → IsDone s room f l x i j
  for_by f l i entry q opens (Some head) e x j h =
      let r = of_head_ok s (i + 2) head e in
      let three : (i + 2) + 1 ≡ i + 3 = omega arith in
      let four : (i + 2) + 2 ≡ i + 4 = omega arith in
      let five : (i + 2) + 3 ≡ i + 5 = omega arith in
      for_of_ok f l i entry q opens head.0 head.1 r.0 (subst (λ (n : ℕ). IsName s n head.1) three r.1) (subst (λ (n : ℕ). IsSpelled s n (codes "of")) four r.2) x j
      (subst (λ (n : ℕ). read_for_of s readers f (place s i) head.0 head.1 n ≡ Some (x, j)) five h)
  for_by f l i entry q opens None e x j h = three_ok f l i entry q opens x j h

  for_ok : (f l : Bool) (i entry : ℕ) → kind s i ≡ k.Word w.For entry → (x : Statement) (j : ℕ) → read_for s room readers f (place s i) (i + 1) ≡ Some (x, j) → IsDone s room f l x i j
  unfolding read_for
  for_ok f l i entry q x j h =
      let o = when_ok (is_mark m.OpenParenthesis (kind s (i + 1))) (read_for_by s room readers f (place s i) ((i + 1) + 1) (of_head s ((i + 1) + 1))) (x, j) h in
      let two : (i + 1) + 1 ≡ i + 2 = omega arith in
      for_by f l i entry q (mark_is m.OpenParenthesis (kind s (i + 1)) o.0) (of_head s (i + 2)) refl x j
      (subst (λ (n : ℕ). read_for_by s room readers f (place s i) n (of_head s n) ≡ Some (x, j)) two o.1)

  -- 3. Statements that end where the tokens say.

  returned_ok : (l : Bool) (i entry : ℕ) → kind s i ≡ k.Word w.Return entry → (end : Option ℕ) → read_end s (i + 1) ≡ end → (x : Statement) (j : ℕ) → read_returned s readers (place s i) (i + 1) end ≡ Some (x, j) → IsDone s room true l x i j
  returned_ok l i entry q (Some n) e x j h =
      moved (λ (z : Statement × ℕ). IsDone s room true l z.0 i z.1) (Return (place s i) absent, n) (x, j) h
      ((refl, refl, (entry, q), end_ok s false refl (i + 1) n e), omega arith)
  returned_ok l i entry q None e x j h =
      let r = bind_ok (readers.expr 1 (i + 1)) (λ a. read_end s a.1 >>= λ j. Some (Return (place s i) (present a.0), j)) (x, j) h in
      let n = bind_ok (read_end s r.0.1) (λ j. Some (Return (place s i) (present r.0.0), j)) (x, j) r.2 in
      let a = whole (i + 1) r.0.0 r.0.1 r.1 in
      let deep : nesting r.0.0 ≤ room = a.1 in
      moved (λ (z : Statement × ℕ). IsDone s room true l z.0 i z.1) (Return (place s i) (present r.0.0), n.0) (x, j) n.2
      ((refl, refl, (entry, q), (r.0.1, no_end s (i + 1) e, a.0, end_ok s (continues s r.0.1) (nothing_continues s r.0.1 a.2) r.0.1 n.0 n.1)), omega arith)

  plain_ok : (f l : Bool) (i : ℕ) → BeginsPlain s i → (x : Statement) (j : ℕ) → read_plain s readers i ≡ Some (x, j) → IsDone s room f l x i j
  unfolding read_plain
  plain_ok f l i begins x j h =
      let r = bind_ok (readers.expr 1 i) (λ a. read_end s a.1 >>= λ j. Some (Plain (place s i) a.0, j)) (x, j) h in
      let n = bind_ok (read_end s r.0.1) (λ j. Some (Plain (place s i) r.0.0, j)) (x, j) r.2 in
      let a = whole i r.0.0 r.0.1 r.1 in
      let deep : nesting r.0.0 ≤ room = a.1 in
      moved (λ (z : Statement × ℕ). IsDone s room f l z.0 i z.1) (Plain (place s i) r.0.0, n.0) (x, j) n.2
      ((r.0.1, refl, begins, a.0, end_ok s (continues s r.0.1) (nothing_continues s r.0.1 a.2) r.0.1 n.0 n.1), omega arith)

  let_end_ok : (f l fixed : Bool) (i : ℕ) → IsLet s fixed i → (each : Declarations) (n : ℕ) → AreWhole s room fixed each (i + 1) n → (b : Bool) → nat_lt room (deepest_declaration each) ≡ b → (x : Statement) (j : ℕ) →
      if◌then◌else◌ {A = Found Statement} b None (read_end s n >>= λ j. Some (Let (place s i) fixed each, j)) ≡ Some (x, j) → IsDone s room f l x i j
  let_end_ok f l fixed i let_at each n a true q x j h = never (x, j) h
  let_end_ok f l fixed i let_at each n a false q x j h =
      let r = bind_ok (read_end s n) (λ j. Some (Let (place s i) fixed each, j)) (x, j) h in
      let deep = ltb-false room (deepest_declaration each) q in
      moved (λ (z : Statement × ℕ). IsDone s room f l z.0 i z.1) (Let (place s i) fixed each, r.0) (x, j) r.2
      ((n, refl, let_at, a.0, end_ok s (declarations_continue s each n) a.2 n r.0 r.1), omega arith)

  let_statement_ok : (f l fixed : Bool) (i : ℕ) → IsLet s fixed i → (x : Statement) (j : ℕ) → read_let_statement s room readers (place s i) fixed (i + 1) ≡ Some (x, j) → IsDone s room f l x i j
  unfolding read_let_statement
  let_statement_ok f l fixed i let_at x j h =
      let r = bind_ok (read_let s (readers.expr 1) fixed (i + 1)) (λ each. if nat_lt room (deepest_declaration each.0) then None else (read_end s each.1 >>= λ j. Some (Let (place s i) fixed each.0, j))) (x, j) h in
      let_end_ok f l fixed i let_at r.0.0 r.0.1 (let_ok s room (readers.expr 1) whole fixed (i + 1) r.0.0 r.0.1 r.1) (nat_lt room (deepest_declaration r.0.0)) (refl {a = nat_lt room (deepest_declaration r.0.0)}) x j r.2

  -- 4. By the first token.

  word_statement_ok : (f l : Bool) (i : ℕ) (word : Word) (entry : ℕ) → kind s i ≡ k.Word word entry → (x : Statement) (j : ℕ) → read_word_statement s room readers f l i word ≡ Some (x, j) → IsDone s room f l x i j
  word_statement_ok f l i w.Let entry q x j h = let_statement_ok f l false i (entry, q) x j h
  word_statement_ok f l i w.Const entry q x j h = let_statement_ok f l true i (entry, q) x j h
  word_statement_ok f l i w.If entry q x j h = if_ok f l i entry q x j h
  word_statement_ok f l i w.While entry q x j h = while_ok f l i entry q x j h
  word_statement_ok f l i w.Do entry q x j h = do_ok f l i entry q x j h
  word_statement_ok f l i w.For entry q x j h = for_ok f l i entry q x j h
  word_statement_ok f l i w.Return entry q x j h =
      let c = when_ok f (read_returned s readers (place s i) (i + 1) (read_end s (i + 1))) (x, j) h in
      subst (λ (f : Bool). IsDone s room f l x i j) (sym c.0) (returned_ok l i entry q (read_end s (i + 1)) refl x j c.1)
  word_statement_ok f l i w.Break entry q x j h =
      let c = when_ok l (read_end s (i + 1) >>= λ j. Some (Break (place s i), j)) (x, j) h in
      let r = bind_ok (read_end s (i + 1)) (λ j. Some (Break (place s i), j)) (x, j) c.1 in
      moved (λ (z : Statement × ℕ). IsDone s room f l z.0 i z.1) (Break (place s i), r.0) (x, j) r.2
      ((refl, c.0, (entry, q), end_ok s false refl (i + 1) r.0 r.1), omega arith)
  word_statement_ok f l i w.Continue entry q x j h =
      let c = when_ok l (read_end s (i + 1) >>= λ j. Some (Continue (place s i), j)) (x, j) h in
      let r = bind_ok (read_end s (i + 1)) (λ j. Some (Continue (place s i), j)) (x, j) c.1 in
      moved (λ (z : Statement × ℕ). IsDone s room f l z.0 i z.1) (Continue (place s i), r.0) (x, j) r.2
      ((refl, c.0, (entry, q), end_ok s false refl (i + 1) r.0 r.1), omega arith)
  word_statement_ok f l i w.Function entry q x j h = never (x, j) h
  word_statement_ok f l i w.Class entry q x j h = never (x, j) h
  word_statement_ok f l i word entry q x j h = plain_ok f l i (plain_begins s i (ap begins_plain q)) x j h

  pub statement_ok : (f l : Bool) (i : ℕ) (t : TokenKind) → kind s i ≡ t → (x : Statement) (j : ℕ) → read_statement s room readers f l i t ≡ Some (x, j) → IsDone s room f l x i j
  statement_ok f l i (k.Mark m.OpenBrace) q x j h =
      let r = bind_ok (read_block s (readers.stmt f l) i) (λ b. Some (Block (place s i) b.0, b.1)) (x, j) h in
      let a = block_ok s room f l (readers.stmt f l) (λ i a j h. ok.stmt_ok f l i a j h) i r.0.0 r.0.1 r.1 in
      let deep : deepest_statement r.0.0 ≤ room = a.2 in
      moved (λ (z : Statement × ℕ). IsDone s room f l z.0 i z.1) (Block (place s i) r.0.0, r.0.1) (x, j) r.2
      ((refl, q, a.1), omega arith)
  statement_ok f l i (k.Mark m.Semicolon) q x j h =
      moved (λ (z : Statement × ℕ). IsDone s room f l z.0 i z.1) (Empty (place s i), i + 1) (x, j) h ((refl, q, refl), omega arith)
  statement_ok f l i (k.Word word entry) q x j h = word_statement_ok f l i word entry q x j h
  statement_ok f l i t q x j h = plain_ok f l i (plain_begins s i (ap begins_plain q)) x j h
