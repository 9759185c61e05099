-- Blocks leave places as they found them, and statements only add locals.
use Rattle.std.proofs.Common.{rules, ◌≡◌, ℕ, ◌+◌, ◌<◌, List, [], ◌∷◌, ◌++◌, length, get_or, take, drop, refl, sym, ap, ◌∙◌, append_assoc, append-nil}
use Rattle.std.specs.Prelude.{Bool, ◌==◌}
use Rattle.std.specs.Option.{option_or}
use Rattle.sts_base.specs.declared.tables.Tables.{Tables}
use Rattle.sts_syntax.specs.declared.trees.Expr.{Expr}
use Rattle.sts_syntax.specs.declared.trees.Stmt.{Stmt}
use Rattle.sts_syntax.specs.Trees.{Statement, Block, Let, IfOnly, IfElse, While, DoWhile, For, ForOf, Return, Break, Continue, Plain, Empty, Items, Declare, Declarations, ended, next}
use Rattle.sts_syntax.specs.Views.{trees, statement, statements}
use Rattle.sts_scope.specs.declared.known.Known.{Known}
use Rattle.sts_scope.specs.declared.known.Local.{Local}
use Rattle.sts_scope.specs.Entries.{Naming}
use Rattle.sts_scope.specs.Places.{NameScope, inner, with, local}
use Rattle.type_derive.specs.Scopes.{Extends, left}
use Rattle.type_derive.specs.Returns.{is_alone, bound, all_declared, after, returned, all_returned}
use Rattle.sts_scope.proofs.Laws.{drop_at}

taken : {A : Type 0} (xs ys : List A) → take (length xs) (xs ++ ys) ≡ xs
taken [] ys = refl
taken (x ∷ xs) ys = ap (λ zs. x ∷ zs) (taken xs ys)

-- behind a block all is as before it
pub restored : (p q : NameScope) (n block : ℕ) → Extends (inner p) q → n ≡ length p.locals → block ≡ p.block → left q n block ≡ p
restored p q n block (more, is) hn hb =
    ap (λ r. left r n block) is ∙ ap (λ m. record p { locals = take m (p.locals ++ more); block = block }) hn
    ∙ ap (λ b. record p { locals = take (length p.locals) (p.locals ++ more); block = b }) hb ∙ ap (λ ls. record p { locals = ls }) (taken p.locals more)

-- a block began at p, came to r, and ended
pub closed : (p q r s : NameScope) (n block : ℕ) → q ≡ inner p → Extends q r → s ≡ left r n block → n ≡ length p.locals → block ≡ p.block → s ≡ p
closed p q r s n block e (more, h) hs hn hb = hs ∙ restored p r n block (more, h ∙ ap {A = NameScope} (λ z. record z { locals = z.locals ++ more }) e) hn hb

pub stays : (p : NameScope) → Extends p p
stays p = ([], ap (λ ls. record p { locals = ls }) (sym (append-nil p.locals)))

pub further : (p q r : NameScope) → Extends p q → Extends q r → Extends p r
further p q r (xs, h) (ys, g) =
    (xs ++ ys, g ∙ ap {A = NameScope} (λ s. record s { locals = s.locals ++ ys }) h ∙ ap {A = List Local} (λ ls. record p { locals = ls }) (append_assoc p.locals xs ys))

all_extend : (t : Tables) (f : Naming) (k : Known) (p : NameScope) (fixed : Bool) (each : Declarations) → Extends p (all_declared t f k p fixed each)
all_extend t f k p fixed ended = stays p
all_extend t f k p fixed (next (Declare at x shape first) rest) =
    let q = with p x (bound t f k p shape first) fixed in
    further p q (all_declared t f k q fixed rest) (local x (bound t f k p shape first) fixed ∷ [], refl) (all_extend t f k q fixed rest)

pub after_extends : (t : Tables) (f : Naming) (k : Known) (p : NameScope) (s : Statement) → Extends p (after t f k p s)
after_extends t f k p (Let at fixed each) = all_extend t f k p fixed each
after_extends t f k p (Block at all) = stays p
after_extends t f k p (IfOnly at c a) = stays p
after_extends t f k p (IfElse at c a b) = stays p
after_extends t f k p (While at c a) = stays p
after_extends t f k p (DoWhile at a c) = stays p
after_extends t f k p (For at first c step a) = stays p
after_extends t f k p (ForOf at fixed x list a) = stays p
after_extends t f k p (Return at e) = stays p
after_extends t f k p (Break at) = stays p
after_extends t f k p (Continue at) = stays p
after_extends t f k p (Plain at e) = stays p
after_extends t f k p (Empty at) = stays p

pub extends_to : (p q r : NameScope) → Extends p q → r ≡ q → Extends p r
extends_to p q r (xs, h) e = (xs, e ∙ h)

-- a further statement of a list, which returns no value or one
pub returned_step : (t : Tables) (f : Naming) (k : Known) (p : NameScope) (xs : List Stmt) (i : ℕ) (s : Stmt) → i < length xs → s ≡ get_or xs i s →
    all_returned t f k p (statements (drop i xs)) ≡ option_or (returned t f k p (statement s)) (all_returned t f k (after t f k p (statement s)) (statements (drop (i + 1) xs)))
returned_step t f k p xs i s lt is = ap (λ ys. all_returned t f k p (statements ys)) (drop_at xs i s lt is)

pub alone_list : (at : ℕ) (xs : List Expr) → is_alone (Items at (trees xs)) ≡ (length xs == 0)
alone_list at [] = refl
alone_list at (x ∷ xs) = search rules
