-- Fields that an answer has besides those of every answer.
use Rattle.std.proofs.Common.{◌≡◌, ◌++◌, ◌∷◌, ◌∙◌, ℕ, List, [], ap, subst}
use Rattle.http1.specs.Fields.{Header}
use Rattle.http_server.specs.declared.response.Response.{Response}
use Rattle.http_server.specs.Response.{fields_of, IsResponse}
use Rattle.play_requests.specs.Requests.{PageAsked}
use Rattle.play_answers.specs.Policy.{policy, HasPolicy}
use Rattle.play_answers.specs.Answers.{RunTells, AnswersAsked}

-- the fields of every answer may be all
pub only_policy : (status : ℕ) (body : List ℕ) (r : Response) → IsResponse status policy body r → HasPolicy r
only_policy status body r h = ([], h.headers)

-- one field more
pub one_field_more : (old new : Response) (x : Header) → HasPolicy old → fields_of new ≡ fields_of old ++ x ∷ [] → HasPolicy new
one_field_more old new x h e = (h.0 ++ x ∷ [], e ∙ ap (λ l. l ++ x ∷ []) h.1)

-- what answers what was asked for answers the request that asked for it
pub asked_so : (tells : RunTells) (asked wanted : PageAsked) (r : Response) → asked ≡ wanted → AnswersAsked tells asked r → AnswersAsked tells wanted r
asked_so tells asked wanted r e h = subst (λ a. AnswersAsked tells a r) e h

-- the same fields
pub same_fields : (old new : Response) → HasPolicy old → fields_of new ≡ fields_of old → HasPolicy new
same_fields old new h e = (h.0, e ∙ h.1)
