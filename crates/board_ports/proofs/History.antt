-- What a word or an unplug adds to what has become of the devices.
use Rattle.std.proofs.Common.{◌≡◌, ◌≢◌, ◌<◌, ◌≤◌, ◌+◌, ℕ, inl, inr, List, [], ◌∷◌, ◌++◌, length, length-append, Bool, true, false, refl, sym, ap, subst, ◌∙◌, append_assoc, append-nil, arith, eqb, ◌||◌, cond}
use Rattle.std.specs.Prelude.{Option, Some, None}
use Rattle.std.proofs.lemmas.List.{flat_map_more}
use Rattle.std.proofs.lemmas.Grind.{flat_map-append}
use Rattle.std.proofs.lemmas.List.Folds.{list_any-append}
use Rattle.std.proofs.lemmas.Bool.Decides.{Decides-eqb}
use Rattle.std.proofs.Math.Bool.{or-false, or-true}
use Rattle.sts_base.specs.Faults.{Rose, one_more}
use Rattle.board_ports.specs.Account.{Account, Received, FailedAmong, Failed}
use Rattle.board_ports.specs.Counts.{some_more}
use Rattle.board_ports.specs.Logs.{Logs, at_moment}
use Rattle.board_ports.specs.Plugged.{Plugged, device_at, mark_at, OthersStay, Sends, SendsAt, SendsAll, SendsAllAt, Settles, SettlesAt, SettlesAll}
use Rattle.board_ports.specs.History.{PortMove, Word, Unplug, words_sent, entries_of, unplugs, entries_at, unplugged_at, Served, PlaceAfter, PlacesAfter, Taking, PlaceFollows, FollowsMoves}
use Rattle.board_ports.proofs.Writes.{some_more_sum, some_more_within}
use Rattle.board_ports.specs.declared.sent.Sent.{Sent}
use Rattle.board_ports.specs.declared.sent.Sent.TheVariants.{Went, Nobody, Lost}

none_is_not_some : {X P : Type 0} (x : X) → (let none : Option X = None in none ≡ Some x) → P
none_is_not_some x e = absurd (cc)

-- entries behind entries
pub logs_then : (a b c : Option (List (ℕ × ℕ))) (s t : List (ℕ × ℕ)) → Logs a b s → Logs b c t → Logs a c (s ++ t)
logs_then a b c s t p q had e = q (had ++ s) (p had e) ∙ ap Some (append_assoc had s t)

-- a count that rose later has risen
rose_before : (a b c : ℕ) → a ≤ b → Rose b c → Rose a c
rose_before a b c h r = omega arith

-- a count that rose before stays so
rose_after : (a b c : ℕ) → Rose a b → b ≤ c → Rose a c
rose_after a b c r h = omega arith

-- as many writes more as there are entries more
writes_then : (entries more : List (ℕ × ℕ)) (w : ℕ) → some_more (length more) (some_more (length entries) w) ≡ some_more (length (entries ++ more)) w
writes_then entries more w =
    let both : length (entries ++ more) ≡ length entries + length more = length-append entries more in
    let turned : length (entries ++ more) ≡ length more + length entries = omega (arith, both) in
    sym (ap (λ n. some_more n w) turned ∙ some_more_sum (length more) (length entries) w)

module _ {B : Type 0} (account : B → Account) where
  -- entries behind entries
  received_then : (entries more : List (ℕ × ℕ)) (old mid new : B) → Received account entries old mid → Received account more mid new → Received account (entries ++ more) old new
  received_then entries more old mid new r s =
      record {
        logged = logs_then (account old).log (account mid).log (account new).log entries more r.logged s.logged;
        kept = s.kept ∙ r.kept;
        once = s.once ∙ ap (some_more (length more)) r.once ∙ writes_then entries more (account old).writes;
      }

  received_failed : (entries more : List (ℕ × ℕ)) (old mid new : B) → Received account entries old mid → FailedAmong account more mid new → FailedAmong account (entries ++ more) old new
  received_failed entries more old mid new r f =
      let both : length (entries ++ more) ≡ length entries + length more = length-append entries more in
      let before : (account mid).writes ≤ (account old).writes + length entries =
      subst (λ w. w ≤ (account old).writes + length entries) (sym r.once) (some_more_within (length entries) (account old).writes) in
      record {
        first = record {
          given = entries ++ f.first.given;
          in_order = (f.first.in_order.0, append_assoc entries f.first.given f.first.in_order.0 ∙ ap (λ x. entries ++ x) f.first.in_order.1);
          logged = logs_then (account old).log (account mid).log (account new).log entries f.first.given r.logged f.first.logged;
        };
        later = omega (arith, r.kept, f.later);
        rose = rose_before (account old).faults (account mid).faults (account new).faults (omega (arith, r.kept)) f.rose;
        most = omega (arith, both, before, f.most);
      }

  -- a device that has failed gets nothing more
  failed_then : (entries more : List (ℕ × ℕ)) (old new : B) → FailedAmong account entries old new → FailedAmong account (entries ++ more) old new
  failed_then entries more old new f =
      let both : length (entries ++ more) ≡ length entries + length more = length-append entries more in
      record {
        first = record {
          given = f.first.given;
          in_order = (f.first.in_order.0 ++ more, sym (append_assoc f.first.given f.first.in_order.0 more) ∙ ap (λ x. x ++ more) f.first.in_order.1);
          logged = f.first.logged;
        };
        later = f.later;
        rose = f.rose;
        most = omega (arith, both, f.most);
      }

  -- a device that failed took none of these entries, and was written to at most once
  failed_of : (entries : List (ℕ × ℕ)) (old new : B) → (account new).writes ≤ (account old).writes + length entries → Failed account old new → FailedAmong account entries old new
  failed_of entries old new most f =
      record {
        first = record { given = []; in_order = (entries, refl); logged = λ had h. f.stays ∙ h ∙ ap Some (sym (append-nil had)) };
        later = f.later;
        rose = f.rose;
        most = most;
      }

  -- a word more is sent to a place
  place_sent : (entries : List (ℕ × ℕ)) (entry : ℕ × ℕ) (u : Bool) (old mid : Option B) (mark : Bool) (new : Option B) (mark' : Bool) (sent : Sent)
      → PlaceFollows account entries u mark old mid → Sends account entry mid mark new mark' sent → PlaceFollows account (entries ++ entry ∷ []) u mark' old new
  place_sent entries entry u None mid mark new mark' Nobody k s = s.1 ∙ k
  place_sent entries entry u None None mark new mark' Went k s = absurd s
  place_sent entries entry u None None mark new mark' Lost k s = absurd s
  place_sent entries entry u None (Some mid) mark new mark' Went k s = none_is_not_some mid (sym k)
  place_sent entries entry u None (Some mid) mark new mark' Lost k s = none_is_not_some mid (sym k)
  place_sent entries entry u (Some old) None mark new mark' Went k s = absurd s
  place_sent entries entry u (Some old) None mark new mark' Lost k s = absurd s
  place_sent entries entry u (Some old) None mark None mark' Nobody k s = k
  place_sent entries entry u (Some old) None mark (Some new) mark' Nobody k s = none_is_not_some new (sym s.1)
  place_sent entries entry u (Some old) (Some mid) mark None mark' Nobody k s = none_is_not_some mid s.1
  place_sent entries entry u (Some old) (Some mid) false (Some new) mark' Nobody k s =
      elim s.0 [ inl h ↦ none_is_not_some mid (sym h) | inr h ↦ absurd (cc) ]
  place_sent entries entry u (Some old) (Some mid) true (Some new) mark' Nobody k s =
      subst (λ m. PlaceFollows account (entries ++ entry ∷ []) u m (Some old) (Some new)) (sym s.2)
      (subst (λ n. PlaceFollows account (entries ++ entry ∷ []) u true (Some old) n) (sym s.1)
      (k.0, failed_then entries (entry ∷ []) old mid k.1))
  place_sent entries entry u (Some old) (Some mid) false (Some new) mark' Went k s =
      subst (λ m. PlaceFollows account (entries ++ entry ∷ []) u m (Some old) (Some new)) (sym s.0)
      (k.0, received_then entries (entry ∷ []) old mid new k.1 s.1)
  place_sent entries entry u (Some old) (Some mid) false (Some new) mark' Lost k s =
      subst (λ m. PlaceFollows account (entries ++ entry ∷ []) u m (Some old) (Some new)) (sym s.0)
      (k.0, received_failed entries (entry ∷ []) old mid new k.1 (failed_of (entry ∷ []) mid new (let once : (account new).writes ≡ one_more (account mid).writes = s.2 in omega arith) s.1))
  place_sent entries entry u (Some old) (Some mid) true (Some new) mark' Went k s = absurd s
  place_sent entries entry u (Some old) (Some mid) true (Some new) mark' Lost k s = absurd s
  place_sent entries entry u (Some old) (Some mid) false None mark' Went k s = absurd s
  place_sent entries entry u (Some old) (Some mid) false None mark' Lost k s = absurd s
  place_sent entries entry u (Some old) (Some mid) true None mark' Went k s = absurd s
  place_sent entries entry u (Some old) (Some mid) true None mark' Lost k s = absurd s

  -- entries more are sent to a place
  place_sent_all : (entries more : List (ℕ × ℕ)) (u : Bool) (old mid : Option B) (mark : Bool) (new : Option B) (mark' : Bool)
      → PlaceFollows account entries u mark old mid → SendsAll account more mid mark new mark' → PlaceFollows account (entries ++ more) u mark' old new
  place_sent_all entries more u None None mark new mark' k s = s.0
  place_sent_all entries more u None (Some mid) mark new mark' k s = none_is_not_some mid (sym k)
  place_sent_all entries more u (Some old) None mark new mark' k s =
      subst (λ n. PlaceFollows account (entries ++ more) u mark' (Some old) n) (sym s.0) k
  place_sent_all entries more u (Some old) (Some mid) true new mark' k s =
      subst (λ m. PlaceFollows account (entries ++ more) u m (Some old) new) (sym s.1)
      (subst (λ n. PlaceFollows account (entries ++ more) u true (Some old) n) (sym s.0)
      (k.0, failed_then entries more old mid k.1))
  place_sent_all entries more u (Some old) (Some mid) false (Some new) false k s = (k.0, received_then entries more old mid new k.1 s)
  place_sent_all entries more u (Some old) (Some mid) false (Some new) true k s = (k.0, received_failed entries more old mid new k.1 s.0)
  place_sent_all entries more u (Some old) (Some mid) false None mark' k s = absurd s

  -- a device settled, or failed to
  settled_then : (entries : List (ℕ × ℕ)) (old mid new : B) → Received account entries old mid → (account new).log ≡ (account mid).log → (account new).faults ≡ (account mid).faults
      → (account new).writes ≡ (account mid).writes → Received account entries old new
  settled_then entries old mid new r l f w = record { logged = λ had h. l ∙ r.logged had h; kept = f ∙ r.kept; once = w ∙ r.once }

  settled_failed : (entries : List (ℕ × ℕ)) (old mid new : B) → Received account entries old mid → (account new).writes ≡ (account mid).writes → Failed account mid new → FailedAmong account entries old new
  settled_failed entries old mid new r w f =
      subst (λ es. FailedAmong account es old new) (append-nil entries) (received_failed entries [] old mid new r (failed_of [] mid new (omega (arith, w)) f))

  -- a place settles
  place_settled : (settled : B → Type 0) (entries : List (ℕ × ℕ)) (u : Bool) (old mid : Option B) (mark : Bool) (new : Option B) (mark' : Bool)
      → PlaceFollows account entries u mark old mid → Settles settled account mid mark new mark' → PlaceFollows account entries u mark' old new
  place_settled settled entries u None None mark new mark' k s = s.0
  place_settled settled entries u None (Some mid) mark new mark' k s = none_is_not_some mid (sym k)
  place_settled settled entries u (Some old) None mark new mark' k s =
      subst (λ n. PlaceFollows account entries u mark' (Some old) n) (sym s.0) k
  place_settled settled entries u (Some old) (Some mid) true new mark' k s =
      subst (λ m. PlaceFollows account entries u m (Some old) new) (sym s.1)
      (subst (λ n. PlaceFollows account entries u true (Some old) n) (sym s.0) k)
  place_settled settled entries u (Some old) (Some mid) false (Some new) false k s = (k.0, settled_then entries old mid new k.1 s.1 s.2 s.3)
  place_settled settled entries u (Some old) (Some mid) false (Some new) true k s = (k.0, settled_failed entries old mid new k.1 s.1 s.0)
  place_settled settled entries u (Some old) (Some mid) false None mark' k s = absurd s

  -- a place is unplugged
  place_unplugged : (entries : List (ℕ × ℕ)) (u mark mark' : Bool) (old mid new : Option B) → new ≡ None → PlaceFollows account entries true mark' old new
  place_unplugged entries u mark mark' None mid new e = e
  place_unplugged entries u mark mark' (Some old) mid None e = refl
  place_unplugged entries u mark mark' (Some old) mid (Some new) e = none_is_not_some new (sym e)

entries_more : (moves : List PortMove) (m : PortMove) (k : ℕ) → entries_at (moves ++ m ∷ []) k ≡ entries_at moves k ++ entries_of k m
entries_more moves m k = sym (flat_map_more (entries_of k) [] moves m)

unplugged_more : (moves : List PortMove) (m : PortMove) (k : ℕ) → unplugged_at (moves ++ m ∷ []) k ≡ (unplugged_at moves k || unplugs k m)
unplugged_more moves m k = list_any-append (unplugs k) moves (m ∷ []) ∙ ap (λ b. unplugged_at moves k || b) (or-false (unplugs k m))

apart : (p k : ℕ) → k ≢ p → (b : Bool) → eqb p k ≡ b → b ≡ false
apart p k h false e = refl
apart p k h true e = absurd (h (sym ((Decides-eqb p k).0 e)))

-- what a move adds at its own port, and at another
entries_here : (moves : List PortMove) (port at word : ℕ) → entries_at (moves ++ Word port at word ∷ []) port ≡ entries_at moves port ++ (at, word) ∷ []
entries_here moves port at word =
    entries_more moves (Word port at word) port
    ∙ ap (λ b. entries_at moves port ++ cond b ((at, word) ∷ []) []) ((Decides-eqb port port).1 refl)

entries_there : (moves : List PortMove) (port at word k : ℕ) → k ≢ port → entries_at (moves ++ Word port at word ∷ []) k ≡ entries_at moves k
entries_there moves port at word k h =
    entries_more moves (Word port at word) k
    ∙ ap (λ b. entries_at moves k ++ cond b ((at, word) ∷ []) []) (apart port k h (eqb port k) refl)
    ∙ append-nil (entries_at moves k)

-- what a word for each byte adds
bytes_here : (port now : ℕ) (bytes : List ℕ) → entries_at (words_sent port now bytes) port ≡ at_moment now bytes
bytes_here port now [] = refl
bytes_here port now (b ∷ bytes) =
    ap (λ t. cond t ((now, b) ∷ []) [] ++ entries_at (words_sent port now bytes) port) ((Decides-eqb port port).1 refl)
    ∙ ap (λ l. (now, b) ∷ l) (bytes_here port now bytes)

bytes_there : (port now k : ℕ) → k ≢ port → (bytes : List ℕ) → entries_at (words_sent port now bytes) k ≡ []
bytes_there port now k h [] = refl
bytes_there port now k h (b ∷ bytes) =
    ap (λ t. cond t ((now, b) ∷ []) [] ++ entries_at (words_sent port now bytes) k) (apart port k h (eqb port k) refl) ∙ bytes_there port now k h bytes

bytes_unplug_none : (port now k : ℕ) (bytes : List ℕ) → unplugged_at (words_sent port now bytes) k ≡ false
bytes_unplug_none port now k [] = refl
bytes_unplug_none port now k (b ∷ bytes) = bytes_unplug_none port now k bytes

entries_of_bytes : (moves : List PortMove) (port now : ℕ) (bytes : List ℕ) → entries_at (moves ++ words_sent port now bytes) port ≡ entries_at moves port ++ at_moment now bytes
entries_of_bytes moves port now bytes =
    flat_map-append (entries_of port) moves (words_sent port now bytes) ∙ ap (λ l. entries_at moves port ++ l) (bytes_here port now bytes)

entries_beside_bytes : (moves : List PortMove) (port now : ℕ) (bytes : List ℕ) (k : ℕ) → k ≢ port → entries_at (moves ++ words_sent port now bytes) k ≡ entries_at moves k
entries_beside_bytes moves port now bytes k h =
    flat_map-append (entries_of k) moves (words_sent port now bytes) ∙ ap (λ l. entries_at moves k ++ l) (bytes_there port now k h bytes) ∙ append-nil (entries_at moves k)

unplugged_by_bytes : (moves : List PortMove) (port now : ℕ) (bytes : List ℕ) (k : ℕ) → unplugged_at (moves ++ words_sent port now bytes) k ≡ unplugged_at moves k
unplugged_by_bytes moves port now bytes k =
    list_any-append (unplugs k) moves (words_sent port now bytes) ∙ ap (λ b. unplugged_at moves k || b) (bytes_unplug_none port now k bytes) ∙ or-false (unplugged_at moves k)

unplugged_by_word : (moves : List PortMove) (port at word k : ℕ) → unplugged_at (moves ++ Word port at word ∷ []) k ≡ unplugged_at moves k
unplugged_by_word moves port at word k = unplugged_more moves (Word port at word) k ∙ or-false (unplugged_at moves k)

entries_by_unplug : (moves : List PortMove) (port k : ℕ) → entries_at (moves ++ Unplug port ∷ []) k ≡ entries_at moves k
entries_by_unplug moves port k = entries_more moves (Unplug port) k ∙ append-nil (entries_at moves k)

unplugged_here : (moves : List PortMove) (port : ℕ) → unplugged_at (moves ++ Unplug port ∷ []) port ≡ true
unplugged_here moves port =
    unplugged_more moves (Unplug port) port ∙ ap (λ b. unplugged_at moves port || b) ((Decides-eqb port port).1 refl)
    ∙ or-true (unplugged_at moves port)

unplugged_there : (moves : List PortMove) (port k : ℕ) → k ≢ port → unplugged_at (moves ++ Unplug port ∷ []) k ≡ unplugged_at moves k
unplugged_there moves port k h =
    unplugged_more moves (Unplug port) k ∙ ap (λ b. unplugged_at moves k || b) (apart port k h (eqb port k) refl)
    ∙ or-false (unplugged_at moves k)

-- a fact at one port and at every other is a fact at every port
by_port : (P : ℕ → Type 0) (p : ℕ) → P p → ((k : ℕ) → k ≢ p → P k) → (k : ℕ) → P k
by_port P p here there k =
    let pick : (b : Bool) → eqb p k ≡ b → P k = λ b. elim b as (λ b. eqb p k ≡ b → P k) [
      | true ↦ λ e. subst P ((Decides-eqb p k).0 e) here
      | false ↦ λ e. there k (λ q. let t : eqb p k ≡ true = (Decides-eqb p k).1 (sym q) in absurd (cc))
    ] in
    pick (eqb p k) refl

module _ {B : Type 0} (account : B → Account) where
  -- a place of equal parts
  place_as : (es es' : List (ℕ × ℕ)) (u u' m m' : Bool) (old new new' : Option B) → es' ≡ es → u' ≡ u → m' ≡ m → new' ≡ new
      → PlaceFollows account es u m old new → PlaceFollows account es' u' m' old new'
  place_as es es' u u' m m' old new new' e f g h k =
      subst (λ x. PlaceFollows account x u' m' old new') (sym e)
      (subst (λ x. PlaceFollows account es x m' old new') (sym f)
      (subst (λ x. PlaceFollows account es u x old new') (sym g)
      (subst (λ x. PlaceFollows account es u m old x) (sym h) k)))

  -- a word more was sent
  pub follows_word : (moves : List PortMove) (start : List (Option B)) (old new : Plugged B) (port at word : ℕ) (sent : Sent)
      → port < 4 → SendsAt account (at, word) port old new sent → OthersStay port old new → FollowsMoves account moves start old
      → FollowsMoves account (moves ++ Word port at word ∷ []) start new
  follows_word moves start old new port at word sent small s others f =
      let more = moves ++ Word port at word ∷ [] in
      record {
        same_length = others.same_length ∙ f.same_length;
        above = λ k h. others.places k (λ e. absurd (omega arith)) ∙ f.above k h;
        ports = by_port (λ k. k < 4 → PlaceFollows account (entries_at more k) (unplugged_at more k) (mark_at new.marks k) (device_at start k) (device_at new.places k)) port
            (λ h. place_as _ _ _ _ _ _ _ _ _ (entries_here moves port at word) (unplugged_by_word moves port at word port) refl refl
            (place_sent account (entries_at moves port) (at, word) (unplugged_at moves port) (device_at start port) (device_at old.places port) (mark_at old.marks port) (device_at new.places port) (mark_at new.marks port) sent (f.ports port h) s))
            (λ k apart h. place_as _ _ _ _ _ _ _ _ _ (entries_there moves port at word k apart) (unplugged_by_word moves port at word k) (others.marks k apart) (others.places k apart) (f.ports k h));
      }

  -- a word for each byte was sent
  pub follows_bytes : (moves : List PortMove) (start : List (Option B)) (old new : Plugged B) (port now : ℕ) (bytes : List ℕ)
      → port < 4 → SendsAllAt account (at_moment now bytes) port old new → OthersStay port old new → FollowsMoves account moves start old
      → FollowsMoves account (moves ++ words_sent port now bytes) start new
  follows_bytes moves start old new port now bytes small s others f =
      let more = moves ++ words_sent port now bytes in
      record {
        same_length = others.same_length ∙ f.same_length;
        above = λ k h. others.places k (λ e. absurd (omega arith)) ∙ f.above k h;
        ports = by_port (λ k. k < 4 → PlaceFollows account (entries_at more k) (unplugged_at more k) (mark_at new.marks k) (device_at start k) (device_at new.places k)) port
            (λ h. place_as _ _ _ _ _ _ _ _ _ (entries_of_bytes moves port now bytes) (unplugged_by_bytes moves port now bytes port) refl refl
            (place_sent_all account (entries_at moves port) (at_moment now bytes) (unplugged_at moves port) (device_at start port) (device_at old.places port) (mark_at old.marks port) (device_at new.places port) (mark_at new.marks port) (f.ports port h) s))
            (λ k apart h. place_as _ _ _ _ _ _ _ _ _ (entries_beside_bytes moves port now bytes k apart) (unplugged_by_bytes moves port now bytes k) (others.marks k apart) (others.places k apart) (f.ports k h));
      }

  -- a port's device has settled
  pub follows_settle : (settled : B → Type 0) (moves : List PortMove) (start : List (Option B)) (old new : Plugged B) (port : ℕ)
      → port < 4 → SettlesAt settled account port old new → OthersStay port old new → FollowsMoves account moves start old → FollowsMoves account moves start new
  follows_settle settled moves start old new port small s others f =
      record {
        same_length = others.same_length ∙ f.same_length;
        above = λ k h. others.places k (λ e. absurd (omega arith)) ∙ f.above k h;
        ports = by_port (λ k. k < 4 → PlaceFollows account (entries_at moves k) (unplugged_at moves k) (mark_at new.marks k) (device_at start k) (device_at new.places k)) port
            (λ h. place_settled account settled (entries_at moves port) (unplugged_at moves port) (device_at start port) (device_at old.places port) (mark_at old.marks port) (device_at new.places port) (mark_at new.marks port) (f.ports port h) s)
            (λ k apart h. place_as _ _ _ _ _ _ _ _ _ refl refl (others.marks k apart) (others.places k apart) (f.ports k h));
      }

  -- the ports below a number have settled, one behind the other, and the others are as they were
  pub record SettledBelow (settled : B → Type 0) (n : ℕ) (first now : Plugged B) : Type 0 where
    pub same_length : length now.places ≡ length first.places
    pub places : (k : ℕ) → n ≤ k → device_at now.places k ≡ device_at first.places k
    pub marks : (k : ℕ) → n ≤ k → mark_at now.marks k ≡ mark_at first.marks k
    pub ports : (k : ℕ) → k < n → (mark : Bool) × Settles settled account (device_at first.places k) (mark_at first.marks k) (device_at now.places k) mark

  pub settled_none : (settled : B → Type 0) (first : Plugged B) → SettledBelow settled 0 first first
  settled_none settled first = record { same_length = refl; places = λ k h. refl; marks = λ k h. refl; ports = λ k h. absurd (omega arith) }

  pub settled_more : (settled : B → Type 0) (n : ℕ) (first old new : Plugged B) → SettledBelow settled n first old → SettlesAt settled account n old new → OthersStay n old new
      → SettledBelow settled (n + 1) first new
  settled_more settled n first old new b s others =
      record {
        same_length = others.same_length ∙ b.same_length;
        places = λ k h. others.places k (λ e. absurd (omega arith)) ∙ b.places k (omega arith);
        marks = λ k h. others.marks k (λ e. absurd (omega arith)) ∙ b.marks k (omega arith);
        ports = by_port (λ k. k < n + 1 → (mark : Bool) × Settles settled account (device_at first.places k) (mark_at first.marks k) (device_at new.places k) mark) n
            (λ h. (
              mark_at new.marks n,
              subst (λ m. Settles settled account (device_at first.places n) m (device_at new.places n) (mark_at new.marks n)) (b.marks n (omega arith))
                  (subst (λ p. Settles settled account p (mark_at old.marks n) (device_at new.places n) (mark_at new.marks n)) (b.places n (omega arith)) s),
            ))
            (λ k apart h. let t = b.ports k (omega (arith, apart)) in
            (t.0, subst (λ p. Settles settled account (device_at first.places k) (mark_at first.marks k) p t.0) (sym (others.places k apart)) t.1));
      }

  pub settled_all : (settled : B → Type 0) (n : ℕ) (first now : Plugged B) → n ≡ 4 → SettledBelow settled n first now → SettlesAll settled account first now.places
  settled_all settled n first now e b =
      record { same_length = b.same_length; above = λ k h. b.places k (omega arith); ports = λ k h. b.ports k (omega arith) }

  -- a port was unplugged
  pub follows_unplug : (moves : List PortMove) (start : List (Option B)) (old new : Plugged B) (port : ℕ)
      → port < 4 → device_at new.places port ≡ None → OthersStay port old new → FollowsMoves account moves start old
      → FollowsMoves account (moves ++ Unplug port ∷ []) start new
  follows_unplug moves start old new port small gone others f =
      let more = moves ++ Unplug port ∷ [] in
      record {
        same_length = others.same_length ∙ f.same_length;
        above = λ k h. others.places k (λ e. absurd (omega arith)) ∙ f.above k h;
        ports = by_port (λ k. k < 4 → PlaceFollows account (entries_at more k) (unplugged_at more k) (mark_at new.marks k) (device_at start k) (device_at new.places k)) port
            (λ h. subst (λ u. PlaceFollows account (entries_at more port) u (mark_at new.marks port) (device_at start port) (device_at new.places port)) (sym (unplugged_here moves port))
            (place_unplugged account _ true false _ (device_at start port) None _ gone))
            (λ k apart h. place_as _ _ _ _ _ _ _ _ _ (entries_by_unplug moves port k) (unplugged_there moves port k apart) (others.marks k apart) (others.places k apart) (f.ports k h));
      }

  at_first : (mark : Bool) (place : Option B) → mark ≡ false → PlaceFollows account [] false mark place place
  at_first mark None e = refl
  at_first mark (Some b) e =
      subst (λ m. PlaceFollows account [] false m (Some b) (Some b)) (sym e) (refl, record { logged = λ had h. h ∙ ap Some (sym (append-nil had)); kept = refl; once = refl })

  -- before any move
  pub follows_first : (now : Plugged B) → ((k : ℕ) → mark_at now.marks k ≡ false) → FollowsMoves account [] now.places now
  follows_first now unmarked = record { same_length = refl; above = λ k h. refl; ports = λ k h. at_first _ _ (unmarked k) }

  served : (entries : List (ℕ × ℕ)) (mark : Bool) (old new : B) → Taking account entries mark old new → Served account entries old new
  served entries false old new t = inl t
  served entries true old new t = inr t

  place_after : (entries : List (ℕ × ℕ)) (u mark : Bool) (old new : Option B) → PlaceFollows account entries u mark old new → PlaceAfter account entries u old new
  place_after entries u mark None new k = k
  place_after entries u mark (Some old) None k = k
  place_after entries u mark (Some old) (Some new) k = (k.0, served entries mark old new k.1)

  -- what the moves leave, without the marks
  pub places_after : (moves : List PortMove) (start : List (Option B)) (now : Plugged B) → FollowsMoves account moves start now
      → PlacesAfter account (entries_at moves) (unplugged_at moves) start now.places
  places_after moves start now f =
      record { same_length = f.same_length; above = f.above; ports = λ k h. place_after _ _ _ _ _ (f.ports k h) }

  -- what has failed stays so where it settles
  failed_settled : (entries : List (ℕ × ℕ)) (old mid new : B) → FailedAmong account entries old mid → (account new).log ≡ (account mid).log → (account mid).faults ≤ (account new).faults
      → (account new).writes ≡ (account mid).writes → FailedAmong account entries old new
  failed_settled entries old mid new f l h w =
      record {
        first = record { given = f.first.given; in_order = f.first.in_order; logged = λ had e. l ∙ f.first.logged had e };
        later = omega (arith, f.later);
        rose = rose_after (account old).faults (account mid).faults (account new).faults f.rose h;
        most = omega (arith, f.most, w);
      }

  served_settled : (entries : List (ℕ × ℕ)) (old mid new : B) → Served account entries old mid → (account new).log ≡ (account mid).log → (account new).faults ≡ (account mid).faults
      → (account new).writes ≡ (account mid).writes → Served account entries old new
  served_settled entries old mid new (inl r) l f w = inl (settled_then account entries old mid new r l f w)
  served_settled entries old mid new (inr r) l f w = inr (failed_settled entries old mid new r l (omega (arith, f)) w)

  served_failed : (entries : List (ℕ × ℕ)) (old mid new : B) → Served account entries old mid → (account new).writes ≡ (account mid).writes → Failed account mid new
      → Served account entries old new
  served_failed entries old mid new (inl r) w f = inr (settled_failed account entries old mid new r w f)
  served_failed entries old mid new (inr r) w f = inr (failed_settled entries old mid new r f.stays f.later w)

  after_settled : (settled : B → Type 0) (entries : List (ℕ × ℕ)) (u : Bool) (old mid : Option B) (mark : Bool) (new : Option B) (mark' : Bool)
      → PlaceAfter account entries u old mid → Settles settled account mid mark new mark' → PlaceAfter account entries u old new
  after_settled settled entries u None None mark new mark' k s = s.0
  after_settled settled entries u None (Some mid) mark new mark' k s = none_is_not_some mid (sym k)
  after_settled settled entries u (Some old) None mark new mark' k s = subst (λ n. PlaceAfter account entries u (Some old) n) (sym s.0) k
  after_settled settled entries u (Some old) (Some mid) true new mark' k s = subst (λ n. PlaceAfter account entries u (Some old) n) (sym s.0) k
  after_settled settled entries u (Some old) (Some mid) false (Some new) false k s = (k.0, served_settled entries old mid new k.1 s.1 s.2 s.3)
  after_settled settled entries u (Some old) (Some mid) false (Some new) true k s = (k.0, served_failed entries old mid new k.1 s.1 s.0)
  after_settled settled entries u (Some old) (Some mid) false None mark' k s = absurd s

  -- what a run leaves, where the devices then settle
  pub places_settled : (settled : B → Type 0) (entries : ℕ → List (ℕ × ℕ)) (unplugged : ℕ → Bool) (old : List (Option B)) (mid : Plugged B) (new : List (Option B))
      → PlacesAfter account entries unplugged old mid.places → SettlesAll settled account mid new → PlacesAfter account entries unplugged old new
  places_settled settled entries unplugged old mid new p s =
      record {
        same_length = s.same_length ∙ p.same_length;
        above = λ k h. s.above k h ∙ p.above k h;
        ports = λ k h. let t = s.ports k h in
            after_settled settled (entries k) (unplugged k) (device_at old k) (device_at mid.places k) (mark_at mid.marks k) (device_at new k) t.0 (p.ports k h) t.1;
      }

  -- entries and unplugs that are told otherwise
  pub places_as : (entries entries' : ℕ → List (ℕ × ℕ)) (unplugged unplugged' : ℕ → Bool) (old new : List (Option B))
      → ((k : ℕ) → entries' k ≡ entries k) → ((k : ℕ) → unplugged' k ≡ unplugged k)
      → PlacesAfter account entries unplugged old new → PlacesAfter account entries' unplugged' old new
  places_as entries entries' unplugged unplugged' old new e u p =
      record {
        same_length = p.same_length;
        above = p.above;
        ports = λ k h.
            subst (λ es. PlaceAfter account es (unplugged' k) (device_at old k) (device_at new k)) (sym (e k))
            (subst (λ b. PlaceAfter account (entries k) b (device_at old k) (device_at new k)) (sym (u k)) (p.ports k h));
      }
