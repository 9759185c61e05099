-- The fields of every answer.
use Rattle.std.specs.Prelude.{◌≡◌, List, [], ◌∷◌, ◌++◌, codes}
use Rattle.http1.specs.Fields.{Header}
use Rattle.http_server.specs.declared.response.Response.{Response}
use Rattle.http_server.specs.Response.{fields_of}
use Rattle.play_answers.specs.declared.page.TheConstants.{POLICY}

-- What the page may do, and that nobody else is to read an answer or to keep it.
abbrev pub policy : List Header
policy =
    (codes "content-security-policy", POLICY.now)
    ∷ (codes "x-content-type-options", codes "nosniff")
    ∷ (codes "cache-control", codes "no-store")
    ∷ (codes "referrer-policy", codes "no-referrer")
    ∷ (codes "cross-origin-opener-policy", codes "same-origin")
    ∷ (codes "cross-origin-resource-policy", codes "same-origin")
    ∷ []

-- the response has them, and then any others
abbrev pub HasPolicy : Response → Type 0
HasPolicy response = (more : List Header) × (fields_of response ≡ policy ++ more)
