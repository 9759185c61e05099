-- What a connection that is new has read, written and answered.
use Rattle.std.proofs.Common.{◌≡◌, ◌++◌, ◌∷◌, ◌∙◌, ℕ, List, [], ap, subst, sym}
use Rattle.std.specs.Prelude.{Option}
use Rattle.std.specs.List.{AllByRecursion}
use Rattle.std.specs.Io.KnownBytes.{Appends, Consumes}
use Rattle.http_server.specs.Exchange.{Call, Chain, Calls}
use Rattle.http_server.specs.History.{History, new_history}
use Rattle.play_requests.specs.declared.wanted.Site.{Site}
use Rattle.play_answers.specs.Answers.{RunTells, AnswersRequest}

pub all_read : (old new : Option (List ℕ)) (begun h : History) → begun ≡ new_history
    → ((more : List ℕ) × Consumes old new more × (h.received ≡ begun.received ++ more)) → Consumes old new h.received
all_read old new begun h e read = subst (λ l. Consumes old new l) (sym (read.2 ∙ ap (λ (x : History). x.received ++ read.0) e)) read.1

pub all_written : (old new : Option (List ℕ)) (begun h : History) → begun ≡ new_history
    → ((more : List ℕ) × Appends old new more × (h.sent ≡ begun.sent ++ more)) → Appends old new h.sent
all_written old new begun h e written = subst (λ l. Appends old new l) (sym (written.2 ∙ ap (λ (x : History). x.sent ++ written.0) e)) written.1

module _ {S : Type 0} (tells : RunTells) (site : S → Site) where
  each : (old : S) (calls : List Call) (new : S) → Chain (λ before request response after. (after ≡ before) × AnswersRequest tells (site before) request response) old calls new
      → AllByRecursion (λ (call : Call). AnswersRequest tells (site old) call.0 call.1) calls
  each old [] new h = tt
  each old (c ∷ calls) new h =
      (h.1.1, subst (λ (s : S). AllByRecursion (λ (call : Call). AnswersRequest tells (site s) call.0 call.1) calls) h.1.0 (each h.0 calls new h.2))

  pub all_answered : (old new : S) (begun h : History) → begun ≡ new_history
      → Calls (λ before request response after. (after ≡ before) × AnswersRequest tells (site before) request response) old new begun.calls h.calls
      → AllByRecursion (λ (call : Call). AnswersRequest tells (site old) call.0 call.1) h.calls
  all_answered old new begun h e called =
      subst (λ (l : List Call). AllByRecursion (λ (call : Call). AnswersRequest tells (site old) call.0 call.1) l)
      (sym (called.1 ∙ ap (λ (x : History). x.calls ++ called.0) e)) (each old called.0 new called.2)
