-- What is read of a text stands behind the library's tables and tree.
use Rattle.std.proofs.Common.{◌≡◌, ℕ, List, ◌++◌, sym, ap, ◌∙◌, subst}
use Rattle.std.specs.Prelude.{Some, slice_get}
use Rattle.sts_base.specs.Distinct.{IsDistinct}
use Rattle.sts_base.specs.declared.tables.Tables.{Tables}
use Rattle.sts_lexer.specs.Laws.{IsRead}
use Rattle.sts_lexer.specs.Tables.{Extends}
use Rattle.sts_lexer.specs.Tokens.{IsTokenization}
use Rattle.sts_lexer.specs.Uses.{NumbersInOrder}
use Rattle.sts_lexer.specs.declared.token.Token.{Token}
use Rattle.sts_lexer.proofs.Laws.{slice_get_left, one_numbering, tokens_same}
use Rattle.sts_syntax.specs.Programs.{Program}
use Rattle.sts_prelude.specs.Library as l
use Rattle.sts_prelude.specs.declared.text.TheConstants.{LIBRARY}
use Rattle.typed_laws.specs.LibraryLaws.{first, LibraryLeavesFirst}
use Rattle.typed_program.specs.Accepting.{ReadsText}

-- a table of distinct strings begins with distinct ones
begins_distinct : (old new : List (List ℕ)) → Extends old new → IsDistinct new → IsDistinct old
begins_distinct old new more distinct i j s here there =
    let left = λ (k : ℕ) (h : slice_get old k ≡ Some s). subst (λ (xs : List (List ℕ)). slice_get xs k ≡ Some s) (sym more.1) (slice_get_left old more.0 k s h) in
    distinct i j s (left i here) (left j there)

-- what was read, over the tables that the library leaves
pub record Behind (text : List ℕ) (tables : Tables) (library : Program) (tokens : List Token) : Type 0 where
  pub own : List Token
  pub own_read : IsTokenization first LIBRARY.now own
  pub library_is : library ≡ l.library own
  pub first_names : IsDistinct first.names
  pub first_texts : IsDistinct first.texts
  pub read : IsRead first text tables tokens

pub behind : LibraryLeavesFirst → (text : List ℕ) (tables : Tables) (library : Program) (tokens : List Token) → ReadsText text tables library tokens → Behind text tables library tokens
behind leaves text tables library tokens r =
    let names : IsDistinct r.first.names = begins_distinct r.first.names tables.names r.names r.names_distinct in
    let texts : IsDistinct r.first.texts = begins_distinct r.first.texts tables.texts r.texts r.texts_distinct in
    let is = leaves r.first library names texts r.library_is in
    record {
      own = is.1;
      own_read = is.2;
      library_is = is.3;
      first_names = subst (λ (t : Tables). IsDistinct t.names) is.0 names;
      first_texts = subst (λ (t : Tables). IsDistinct t.texts) is.0 texts;
      read = record {
        tokens = r.tokenization;
        names = r.names_distinct;
        texts = r.texts_distinct;
        more_names = subst (λ (t : Tables). Extends t.names tables.names) is.0 r.names;
        more_texts = subst (λ (t : Tables). Extends t.texts tables.texts) is.0 r.texts;
        in_order = subst (λ (t : Tables). NumbersInOrder t tables tokens) is.0 r.in_order;
      };
    }

-- the tables begin with those of the library
pub begin : (tables : Tables) (names : Extends first.names tables.names) (texts : Extends first.texts tables.texts)
    → tables ≡ record { names = first.names ++ names.0; texts = first.texts ++ texts.0 }
begin tables names texts =
    ap (λ (xs : List (List ℕ)). record tables { names = xs }) names.1 ∙ ap (λ (xs : List (List ℕ)). record tables { names = first.names ++ names.0; texts = xs }) texts.1

-- a text is read in one way
pub record AreOne (tables tables' : Tables) (library library' : Program) (tokens tokens' : List Token) : Type 0 where
  pub tables_same : tables ≡ tables'
  pub library_same : library ≡ library'
  pub tokens_same : tokens ≡ tokens'

pub one_reading : LibraryLeavesFirst → (text : List ℕ) (tables tables' : Tables) (library library' : Program) (tokens tokens' : List Token)
    → ReadsText text tables library tokens → ReadsText text tables' library' tokens' → AreOne tables tables' library library' tokens tokens'
one_reading leaves text tables tables' library library' tokens tokens' r s =
    let a = behind leaves text tables library tokens r in
    let b = behind leaves text tables' library' tokens' s in
    let same = one_numbering first tables tables' text tokens tokens' a.read b.read in
    let own : a.own ≡ b.own = tokens_same first LIBRARY.now a.own b.own a.first_names a.first_texts a.own_read b.own_read in
    record { tables_same = same.0; library_same = a.library_is ∙ (ap l.library own ∙ sym b.library_is); tokens_same = same.1 }
