-- What a request of the page asks for.
use Rattle.std.specs.Prelude.{◌==◌, ◌&&◌, ◌||◌, nat_le, ℕ, Bool, not, List, [], length, take, drop, unwrap_or, if◌then◌else◌, codes, Option, Some, None}
use Rattle.std.specs.List.{before_first, after_first, starts_with}
use Rattle.std.specs.Option.{option_map}
use Rattle.std.specs.Str.{bytes_eq}
use Rattle.std.specs.String.{string_bytes}
use Rattle.http.specs.declared.request.Request.{Request}
use Rattle.http.specs.Request.{head_of, body_of}
use Rattle.http_header.specs.HeaderMap.{get}
use Rattle.http_header.specs.Token.{lowercase}
use Rattle.http_uri.specs.Uri.{uri_path}
use Rattle.play_requests.specs.Numbers.{path_number}
use Rattle.play_requests.specs.declared.wanted.Which.{Which}
use Rattle.play_requests.specs.declared.wanted.Which.TheVariants.{Program, Script}
use Rattle.play_requests.specs.declared.wanted.Wanted.{Wanted}
use Rattle.play_requests.specs.declared.wanted.Wanted.TheVariants as it
use Rattle.play_requests.specs.declared.wanted.Site.{Site}

-- What can be asked for: the page; a file as it is; a run of a text on a script, if there is one, within a budget; that
-- a file which had this sum be these bytes. What can't be had is refused by a status.
pub data PageAsked : Type 0 where
  the_page : PageAsked
  a_file : (which : Which) → PageAsked
  a_run : (text : List ℕ) (script : Option (List ℕ)) (budget : ℕ) → PageAsked
  a_save : (which : Which) (sum bytes : List ℕ) → PageAsked
  refused : (status : ℕ) → PageAsked

-- the same by its bytes
abbrev pub as_asked : Wanted → PageAsked
as_asked it.Page = the_page
as_asked (it.File which) = a_file which
as_asked (it.Run text script budget) = a_run text.now (option_map (λ bytes. bytes.now) script) budget.instructions
as_asked (it.Save which sum bytes) = a_save which sum.now bytes.now
as_asked (it.Refused status) = refused status

-- the bytes of the first field of a name; none where there is no such field
abbrev pub request_field : Request (List ℕ) → List ℕ → List ℕ
request_field request name =
    unwrap_or (option_map (λ value. value.bytes) (get (head_of request).headers (lowercase name))) []

-- the bytes, if there are any
abbrev pub some_bytes : List ℕ → Option (List ℕ)
some_bytes [] = None
some_bytes bytes = Some bytes

-- So many bytes of the body are the text, and what is left of it is the script, if anything is left.
abbrev pub run_of_numbers : (text_length budget : Option ℕ) (body : List ℕ) → PageAsked
run_of_numbers (Some n) (Some budget) body =
    if nat_le n (length body) && nat_le 1 budget && nat_le budget 50000000
    then a_run (take n body) (some_bytes (drop n body)) budget
    else refused 400
run_of_numbers _ _ body = refused 400

-- the run of `N/B` in a path: N is the length of the text and B the budget
abbrev pub run_asked : (path body : List ℕ) → PageAsked
run_asked path body =
    run_of_numbers (path_number (before_first (λ byte. byte == 47) path))
    (path_number (after_first (λ byte. byte == 47) path)) body

-- a path's beginning
abbrev pub path_begins : List ℕ → List ℕ → Bool
path_begins path front = starts_with (λ a b. a == b) path front

-- what a path asks for by GET, from who bears the key
abbrev pub got : (path : List ℕ) → PageAsked
got path =
    if bytes_eq path (codes "/program") then a_file Program
    else if bytes_eq path (codes "/script") then a_file Script
    else if path_begins path (codes "/run/") || path_begins path (codes "/save/") then refused 405
    else refused 404

-- what a path asks for by POST where it asks for no run, with this field X-Sum and this body
abbrev pub save_asked : (path sum body : List ℕ) → PageAsked
save_asked path sum body =
    if bytes_eq path (codes "/save/program") then a_save Program sum body
    else if bytes_eq path (codes "/save/script") then a_save Script sum body
    else if bytes_eq path (codes "/") || bytes_eq path (codes "/program") || bytes_eq path (codes "/script")
    then refused 405
    else refused 404

-- what a path asks for by POST, from who bears the key
abbrev pub posted : (path sum body : List ℕ) → PageAsked
posted path sum body =
    if path_begins path (codes "/run/") then run_asked (drop 5 path) body else save_asked path sum body

-- What a request asks for: one to another host is refused; the page is everybody's; another one without the key is
-- refused; and the rest go by method and path.
abbrev pub page_asks : Site → Request (List ℕ) → PageAsked
page_asks site request =
    let method = (head_of request).method in
    let path = uri_path (head_of request).uri in
    if not (bytes_eq (request_field request (codes "host")) (string_bytes site.host)) then refused 421
    else if bytes_eq method (codes "GET") && bytes_eq path (codes "/") then the_page
    else if not (bytes_eq (request_field request (codes "x-play")) (string_bytes site.key)) then refused 403
    else if bytes_eq method (codes "GET") then got path
    else if bytes_eq method (codes "POST") then posted path (request_field request (codes "x-sum")) (body_of request)
    else refused 405
