-- What requests are answered with.
use Rattle.std.specs.Prelude.{◌≡◌, ◌⊎◌, ◌++◌, ◌∷◌, ℕ, List, [], codes, Option}
use Rattle.http.specs.declared.request.Request.{Request}
use Rattle.http_server.specs.declared.response.Response.{Response}
use Rattle.http_server.specs.Response.{IsResponse}
use Rattle.play_requests.specs.declared.wanted.Site.{Site}
use Rattle.play_requests.specs.Requests.{PageAsked, the_page, a_file, a_run, a_save, refused, page_asks}
use Rattle.play_answers.specs.declared.page.TheConstants.{PAGE}
use Rattle.play_answers.specs.Policy.{policy, HasPolicy}

-- what a body tells of the run of a text on a script, if there is one, within a budget
abbrev pub RunTells : Type 1
RunTells = (text : List ℕ) (script : Option (List ℕ)) (budget : ℕ) (body : List ℕ) → Type 0

-- the page
abbrev pub IsPage : Response → Type 0
IsPage = IsResponse 200 (policy ++ (codes "content-type", codes "text/html; charset=utf-8") ∷ []) PAGE.now

-- a file is there, or it isn't, or can't be read
abbrev pub ShowsFile : Response → Type 0
ShowsFile response =
    (response.status ≡ 200) ⊎ ((response.status ≡ 404) ⊎ (response.status ≡ 500)) × (response.body.items ≡ [])

-- it is kept, or is another by now, or can't be written
abbrev pub AnswersSave : Response → Type 0
AnswersSave response =
    ((response.status ≡ 204) ⊎ (response.status ≡ 409) ⊎ (response.status ≡ 500)) × (response.body.items ≡ [])

-- What is answered to what was asked for: the page; a run's body; a refusal without a body.
abbrev pub AnswersAsked : RunTells → PageAsked → Response → Type 0
AnswersAsked tells the_page response = IsPage response
AnswersAsked tells (a_file which) response = HasPolicy response × ShowsFile response
AnswersAsked tells (a_run text script budget) response =
    (body : List ℕ) × IsResponse 200 policy body response × tells text script budget body
AnswersAsked tells (a_save which sum bytes) response = HasPolicy response × AnswersSave response
AnswersAsked tells (refused status) response = IsResponse status policy [] response

-- a response answers a request that came to a site
abbrev pub AnswersRequest : RunTells → Site → Request (List ℕ) → Response → Type 0
AnswersRequest tells site request response = AnswersAsked tells (page_asks site request) response
