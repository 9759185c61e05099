use Rattle.std.proofs.Common.{ℕ, List, [], subst}
use Rattle.sts_syntax.specs.Programs.{program}
use Rattle.sts_prelude.specs.Spelled.{IsLibraryTree}
use Rattle.sts_grammar.specs.Texts.{no_entries}
use Rattle.typed_program.specs.Accepting.{ReadsText}
use Rattle.text_sizes.proofs.Laws.{most_tokens}
use Rattle.typed_program.proofs.Few.{library_few}
use Rattle.typed_program.proofs.accepting.accept.Goals as goal

pub accept_tokens-requires-clause-few : goal.accept_tokens-requires-clause-few
accept_tokens-requires-clause-few c = most_tokens c.tokens.new.tables c.args.text.now c.in_ok-tokens.tokens c.in_ok-tokens.ensures.tokens

pub accept_tokens-requires-clause-library : goal.accept_tokens-requires-clause-library
accept_tokens-requires-clause-library c =
    let p = program c.in-Ok.library in
    let after = c.library.new.tables in
    let library_is : IsLibraryTree no_entries after p =
    subst (λ (names : List (List ℕ)). IsLibraryTree (record { names = names; texts = [] }) after p) c.new.ensures
    (subst (λ (texts : List (List ℕ)). IsLibraryTree (record { names = c.new.result; texts = texts }) after p) c.new-2.ensures c.in-Ok.ensures.library) in
    library_few after p library_is

pub returns-in-Ok-accept_tokens-clause-accepted : goal.returns-in-Ok-accept_tokens-clause-accepted
returns-in-Ok-accept_tokens-clause-accepted c =
    let p = program c.in-Ok.library in
    let after = c.library.new.tables in
    let library_is : IsLibraryTree no_entries after p =
    subst (λ (names : List (List ℕ)). IsLibraryTree (record { names = names; texts = [] }) after p) c.new.ensures
    (subst (λ (texts : List (List ℕ)). IsLibraryTree (record { names = c.new.result; texts = texts }) after p) c.new-2.ensures c.in-Ok.ensures.library) in
    c.in-Ok-accept_tokens.ensures.accepted c.args.text.now
    (record {
      first = after;
      library_is = library_is;
      tokenization = c.in_ok-tokens.ensures.tokens;
      in_order = c.in_ok-tokens.ensures.in_order;
      names = c.tokens.ensures.names_extended;
      texts = c.tokens.ensures.texts_extended;
      names_distinct = c.tokens.ensures.names_distinct;
      texts_distinct = c.tokens.ensures.texts_distinct;
    })

pub returns-in-Err-accept_tokens-clause-refused : goal.returns-in-Err-accept_tokens-clause-refused
returns-in-Err-accept_tokens-clause-refused c =
    let p = program c.in-Ok.library in
    let after = c.library.new.tables in
    let library_is : IsLibraryTree no_entries after p =
    subst (λ (names : List (List ℕ)). IsLibraryTree (record { names = names; texts = [] }) after p) c.new.ensures
    (subst (λ (texts : List (List ℕ)). IsLibraryTree (record { names = c.new.result; texts = texts }) after p) c.new-2.ensures c.in-Ok.ensures.library) in
    let reads : ReadsText c.args.text.now c.tokens.new.tables p c.in_ok-tokens.tokens =
    record {
      first = after;
      library_is = library_is;
      tokenization = c.in_ok-tokens.ensures.tokens;
      in_order = c.in_ok-tokens.ensures.in_order;
      names = c.tokens.ensures.names_extended;
      texts = c.tokens.ensures.texts_extended;
      names_distinct = c.tokens.ensures.names_distinct;
      texts_distinct = c.tokens.ensures.texts_distinct;
    } in
    c.in-Err-accept_tokens.ensures.refused c.args.text.now reads
