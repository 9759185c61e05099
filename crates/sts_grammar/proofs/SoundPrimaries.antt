-- Primaries and prefix operators that are read are spelled, where what stands deeper is.
use Rattle.std.proofs.Common.{◌≡◌, ℕ, suc, ◌+◌, ◌<◌, ◌≤◌, List, refl, sym, subst, arith}
use Rattle.std.specs.Prelude.{ℤ, Bool, true, false, Option, Some, None}
use Rattle.sts_lexer.specs.declared.marks.Mark.{Mark}
use Rattle.sts_lexer.specs.declared.marks.Mark.TheVariants as m
use Rattle.sts_lexer.specs.declared.words.Word.{Word}
use Rattle.sts_lexer.specs.declared.words.Word.TheVariants as w
use Rattle.sts_lexer.specs.declared.token.TokenKind.{TokenKind}
use Rattle.sts_lexer.specs.declared.token.TokenKind.TheVariants as k
use Rattle.sts_syntax.specs.Annotations.{Annotation}
use Rattle.sts_syntax.specs.Trees.{Parameter, Tree, Num, Text, Truth, Null, This, Name, Unary, Bump, SuperCall, Make, Items, Handler, Statement, Statements, Does}
use Rattle.sts_syntax.specs.Nesting.{nesting, deepest_tree, statement_nesting, deepest_statement}
use Rattle.sts_grammar.specs.Source.{Source, kind, place, IsMark, is_mark}
use Rattle.sts_grammar.specs.Operators.{prefix_number, bump_by}
use Rattle.sts_grammar.specs.Operands.{level, IsOperand}
use Rattle.sts_grammar.specs.Spells.{IsBare, IsStatement, InBlock}
use Rattle.sts_grammar.specs.Found.{◌>>=◌, name_of, member_name_of}
use Rattle.sts_grammar.specs.ReadHeadings.{read_heading, read_arrow_heading}
use Rattle.sts_grammar.specs.ReadExpressions.{Readers, is_target, binds_before, read_listed, read_arguments, read_block, read_handler, bump_before, read_prefix, read_mark, read_super, read_word, read_primary}
use Rattle.sts_grammar.proofs.Tokens.{bind_ok, when_ok, moved, both_are, never, name_is, member_name_is, mark_is}
use Rattle.sts_grammar.proofs.SoundHeadings.{heading_ok, arrow_heading_ok}
use Rattle.sts_grammar.proofs.SoundLists.{listed_ok, arguments_ok, block_ok}
use Rattle.sts_grammar.proofs.Operators.{binds_max, target_is}

-- what is read as an operand of at least level l with at most this nesting
abbrev pub IsRead : Source → (upto room l : ℕ) → Tree → ℕ → ℕ → Type 0
IsRead s upto room l e i j = IsOperand s l e (IsBare s e) i j × (nesting e ≤ room) × (binds_before s upto j < l)

-- What readers of what has at most this nesting keep.
pub record AreSound (s : Source) (upto room : ℕ) (readers : Readers) : Type 0 where
  pub expr_ok : (l i : ℕ) (e : Tree) (j : ℕ) → readers.expr l i ≡ Some (e, j) → 1 ≤ l → l ≤ 12 → IsRead s upto room l e i j
  pub stmt_ok : (f l : Bool) (i : ℕ) (a : Statement) (j : ℕ) → readers.stmt f l i ≡ Some (a, j) → IsStatement s f l a i j × (statement_nesting a ≤ room)

-- a primary, or a prefix operator and its operand: what stands behind it binds no more tightly than it holds together
abbrev pub IsPrimary : Source → (upto room : ℕ) → Tree → ℕ → ℕ → Type 0
IsPrimary s upto room e i j =
    IsBare s e i j × (nesting e ≤ suc room) × ((w : ℕ) × (12 ≤ w) × (w ≤ level e) × (binds_before s upto j ≤ w))

module _ (s : Source) (upto room : ℕ) (readers : Readers) (ok : AreSound s upto room readers) where
  one_ok : (i : ℕ) (e : Tree) (j : ℕ) → readers.expr 1 i ≡ Some (e, j) → IsOperand s 1 e (IsBare s e) i j × (nesting e ≤ room)
  one_ok i e j h = let r = ok.expr_ok 1 i e j h (omega arith) (omega arith) in (r.0, r.1)

  -- what holds as tightly as anything
  firm : (e : Tree) (i j : ℕ) → IsBare s e i j → nesting e ≤ suc room → 14 ≤ level e → IsPrimary s upto room e i j
  firm e i j b n l = (b, n, (14, omega arith, l, binds_max s upto j))

  handler_ok : (at : ℕ) (arrow : Bool) (heading : List Parameter × Option Annotation) (i : ℕ) (e : Tree) (j : ℕ) → read_handler s readers at arrow heading i ≡ Some (e, j) →
      (all : Statements) × (e ≡ Handler at (Does at heading.0 heading.1 all arrow)) × IsMark s i m.OpenBrace × InBlock s true false all (i + 1) j × (deepest_statement all ≤ room)
  unfolding read_handler
  handler_ok at arrow heading i e j h =
      let r = bind_ok (read_block s (readers.stmt true false) i) (λ b. Some (Handler at (Does at heading.0 heading.1 b.0 arrow), b.1)) (e, j) h in
      let b = block_ok s room true false (readers.stmt true false) (λ i a j h. ok.stmt_ok true false i a j h) i r.0.0 r.0.1 r.1 in
      let same = both_are (Handler at (Does at heading.0 heading.1 r.0.0 arrow)) r.0.1 e j r.2 in (
        r.0.0,
        sym same.0,
        b.0,
        subst (InBlock s true false r.0.0 (i + 1)) same.1 b.1,
        b.2,
      )

  arrow_ok : (i : ℕ) (e : Tree) (j : ℕ) → (read_arrow_heading s i >>= λ h. read_handler s readers (place s i) true h.0 h.1) ≡ Some (e, j) → IsPrimary s upto room e i j
  arrow_ok i e j h =
      let a = bind_ok (read_arrow_heading s i) (λ h. read_handler s readers (place s i) true h.0 h.1) (e, j) h in
      let head = arrow_heading_ok s i a.0.0 a.0.1 a.1 in
      let b = handler_ok (place s i) true a.0.0 a.0.1 e j a.2 in
      let deep : deepest_statement b.0 ≤ room = b.4 in
      subst (λ (z : Tree). IsPrimary s upto room z i j) (sym b.1)
      (firm (Handler (place s i) (Does (place s i) a.0.0.0 a.0.0.1 b.0 true)) i j
      (refl, (refl, (head.1.0, head.0, a.0.1, head.1.1, head.1.2, head.1.3, (head.2, head.3), b.2, b.3))) (omega arith) (omega arith))

  function_ok : (i entry : ℕ) → kind s i ≡ k.Word w.Function entry → (e : Tree) (j : ℕ) → (read_heading s (i + 1) >>= λ h. read_handler s readers (place s i) false h.0 h.1) ≡ Some (e, j) → IsPrimary s upto room e i j
  function_ok i entry q e j h =
      let a = bind_ok (read_heading s (i + 1)) (λ h. read_handler s readers (place s i) false h.0 h.1) (e, j) h in
      let head = heading_ok s (i + 1) a.0.0 a.0.1 a.1 in
      let b = handler_ok (place s i) false a.0.0 a.0.1 e j a.2 in
      let deep : deepest_statement b.0 ≤ room = b.4 in
      subst (λ (z : Tree). IsPrimary s upto room z i j) (sym b.1)
      (firm (Handler (place s i) (Does (place s i) a.0.0.0 a.0.0.1 b.0 false)) i j
      (refl, (refl, (entry, q), (head.0, a.0.1, a.0.1, head.1, head.2, head.3, refl, b.2, b.3))) (omega arith) (omega arith))

  prefix_ok : (i : ℕ) (mark : Mark) → IsMark s i mark → (op : Option ℕ) (by : Option ℤ) → prefix_number mark ≡ op → bump_by mark ≡ by → (e : Tree) (j : ℕ) → read_prefix s readers i op by ≡ Some (e, j) → IsPrimary s upto room e i j
  prefix_ok i mark q (Some op) by po pb e j h =
      let r = bind_ok (readers.expr 12 (i + 1)) (λ a. Some (Unary (place s i) op a.0, a.1)) (e, j) h in
      let a = ok.expr_ok 12 (i + 1) r.0.0 r.0.1 r.1 (omega arith) (omega arith) in
      let deep : nesting r.0.0 ≤ room = a.1 in
      let stops : binds_before s upto r.0.1 < 12 = a.2 in
      moved (λ (z : Tree × ℕ). IsPrimary s upto room z.0 i z.1) (Unary (place s i) op r.0.0, r.0.1) (e, j) r.2
      ((mark, refl, q, po, a.0), omega arith, (12, omega arith, omega arith, omega arith))
  prefix_ok i mark q None (Some by) po pb e j h =
      let r = bind_ok (readers.expr 12 (i + 1)) (bump_before (place s i) by) (e, j) h in
      let c = when_ok (is_target r.0.0) (Some (Bump (place s i) r.0.0 by false, r.0.1)) (e, j) r.2 in
      let a = ok.expr_ok 12 (i + 1) r.0.0 r.0.1 r.1 (omega arith) (omega arith) in
      let deep : nesting r.0.0 ≤ room = a.1 in
      let stops : binds_before s upto r.0.1 < 12 = a.2 in
      moved (λ (z : Tree × ℕ). IsPrimary s upto room z.0 i z.1) (Bump (place s i) r.0.0 by false, r.0.1) (e, j) c.1
      ((mark, refl, q, pb, target_is r.0.0 c.0, a.0), omega arith, (12, omega arith, omega arith, omega arith))
  prefix_ok i mark q None None po pb e j h = never (e, j) h

  mark_ok : (i : ℕ) (mark : Mark) → IsMark s i mark → (e : Tree) (j : ℕ) → read_mark s readers i mark ≡ Some (e, j) → IsPrimary s upto room e i j
  mark_ok i m.OpenBracket q e j h =
      let r = bind_ok (read_listed s true (readers.expr 1) (i + 1)) (λ a. Some (Items (place s i) a.0, a.1)) (e, j) h in
      let a = listed_ok s room true (readers.expr 1) one_ok (i + 1) r.0.0 r.0.1 r.1 in
      let deep : deepest_tree r.0.0 ≤ room = a.1 in
      moved (λ (z : Tree × ℕ). IsPrimary s upto room z.0 i z.1) (Items (place s i) r.0.0, r.0.1) (e, j) r.2
      (firm (Items (place s i) r.0.0) i r.0.1 (refl, q, a.0) (omega arith) (omega arith))
  mark_ok i m.OpenParenthesis q e j h = arrow_ok i e j h
  mark_ok i mark q e j h = prefix_ok i mark q (prefix_number mark) (bump_by mark) refl refl e j h

  super_ok : (i entry : ℕ) → kind s i ≡ k.Word w.Super entry → (b : Bool) → is_mark m.Dot (kind s (i + 1)) ≡ b → (e : Tree) (j : ℕ) → read_super s readers i b ≡ Some (e, j) → IsPrimary s upto room e i j
  super_ok i entry q false d e j h =
      let r = bind_ok (read_arguments s (readers.expr 1) (i + 1)) (λ a. Some (SuperCall (place s i) None a.0, a.1)) (e, j) h in
      let a = arguments_ok s room (readers.expr 1) one_ok (i + 1) (i + 2) (omega arith) r.0.0 r.0.1 r.1 in
      let deep : deepest_tree r.0.0 ≤ room = a.2 in
      moved (λ (z : Tree × ℕ). IsPrimary s upto room z.0 i z.1) (SuperCall (place s i) None r.0.0, r.0.1) (e, j) r.2
      (firm (SuperCall (place s i) None r.0.0) i r.0.1 (refl, (entry, q), a.0, a.1) (omega arith) (omega arith))
  super_ok i entry q true d e j h =
      let x = bind_ok (member_name_of (kind s (i + 2))) (λ method. read_arguments s (readers.expr 1) (i + 3) >>= λ a. Some (SuperCall (place s i) (Some method) a.0, a.1)) (e, j) h in
      let r = bind_ok (read_arguments s (readers.expr 1) (i + 3)) (λ a. Some (SuperCall (place s i) (Some x.0) a.0, a.1)) (e, j) x.2 in
      let a = arguments_ok s room (readers.expr 1) one_ok (i + 3) (i + 4) (omega arith) r.0.0 r.0.1 r.1 in
      let deep : deepest_tree r.0.0 ≤ room = a.2 in
      moved (λ (z : Tree × ℕ). IsPrimary s upto room z.0 i z.1) (SuperCall (place s i) (Some x.0) r.0.0, r.0.1) (e, j) r.2
      (firm (SuperCall (place s i) (Some x.0) r.0.0) i r.0.1
      (refl, (entry, q), mark_is m.Dot (kind s (i + 1)) d, member_name_is s (i + 2) (kind s (i + 2)) x.0 refl x.1, a.0, a.1) (omega arith) (omega arith))

  word_ok : (i : ℕ) (word : Word) (entry : ℕ) → kind s i ≡ k.Word word entry → (e : Tree) (j : ℕ) → read_word s readers i word ≡ Some (e, j) → IsPrimary s upto room e i j
  word_ok i w.True entry q e j h =
      moved (λ (z : Tree × ℕ). IsPrimary s upto room z.0 i z.1) (Truth (place s i) true, i + 1) (e, j) h
      (firm (Truth (place s i) true) i (i + 1) (refl, (entry, q), refl) (omega arith) (omega arith))
  word_ok i w.False entry q e j h =
      moved (λ (z : Tree × ℕ). IsPrimary s upto room z.0 i z.1) (Truth (place s i) false, i + 1) (e, j) h
      (firm (Truth (place s i) false) i (i + 1) (refl, (entry, q), refl) (omega arith) (omega arith))
  word_ok i w.Null entry q e j h =
      moved (λ (z : Tree × ℕ). IsPrimary s upto room z.0 i z.1) (Null (place s i), i + 1) (e, j) h
      (firm (Null (place s i)) i (i + 1) (refl, (entry, q), refl) (omega arith) (omega arith))
  word_ok i w.This entry q e j h =
      moved (λ (z : Tree × ℕ). IsPrimary s upto room z.0 i z.1) (This (place s i), i + 1) (e, j) h
      (firm (This (place s i)) i (i + 1) (refl, (entry, q), refl) (omega arith) (omega arith))
  word_ok i w.New entry q e j h =
      let x = bind_ok (name_of (kind s (i + 1))) (λ class. read_arguments s (readers.expr 1) (i + 2) >>= λ a. Some (Make (place s i) class a.0, a.1)) (e, j) h in
      let r = bind_ok (read_arguments s (readers.expr 1) (i + 2)) (λ a. Some (Make (place s i) x.0 a.0, a.1)) (e, j) x.2 in
      let a = arguments_ok s room (readers.expr 1) one_ok (i + 2) (i + 3) (omega arith) r.0.0 r.0.1 r.1 in
      let deep : deepest_tree r.0.0 ≤ room = a.2 in
      moved (λ (z : Tree × ℕ). IsPrimary s upto room z.0 i z.1) (Make (place s i) x.0 r.0.0, r.0.1) (e, j) r.2
      (firm (Make (place s i) x.0 r.0.0) i r.0.1 (refl, (entry, q), name_is (kind s (i + 1)) x.0 x.1, a.0, a.1) (omega arith) (omega arith))
  word_ok i w.Super entry q e j h = super_ok i entry q (is_mark m.Dot (kind s (i + 1))) refl e j h
  word_ok i w.Function entry q e j h = function_ok i entry q e j h
  word_ok i _ entry q e j h = never (e, j) h

  pub primary_ok : (i : ℕ) (t : TokenKind) → kind s i ≡ t → (e : Tree) (j : ℕ) → read_primary s readers i t ≡ Some (e, j) → IsPrimary s upto room e i j
  primary_ok i (k.Num value) q e j h =
      moved (λ (z : Tree × ℕ). IsPrimary s upto room z.0 i z.1) (Num (place s i) value, i + 1) (e, j) h
      (firm (Num (place s i) value) i (i + 1) (refl, q, refl) (omega arith) (omega arith))
  primary_ok i (k.Text text) q e j h =
      moved (λ (z : Tree × ℕ). IsPrimary s upto room z.0 i z.1) (Text (place s i) text, i + 1) (e, j) h
      (firm (Text (place s i) text) i (i + 1) (refl, q, refl) (omega arith) (omega arith))
  primary_ok i (k.Name name) q e j h =
      moved (λ (z : Tree × ℕ). IsPrimary s upto room z.0 i z.1) (Name (place s i) name, i + 1) (e, j) h
      (firm (Name (place s i) name) i (i + 1) (refl, q, refl) (omega arith) (omega arith))
  primary_ok i (k.Word word entry) q e j h = word_ok i word entry q e j h
  primary_ok i (k.Mark mark) q e j h = mark_ok i mark q e j h
  primary_ok i k.Finish q e j h = never (e, j) h
