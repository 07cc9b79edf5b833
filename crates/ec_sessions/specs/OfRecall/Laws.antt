-- What the actions that are due have in common. No public clause cites this file.
use Rattle.std.specs.Prelude.{◌≡◌, ◌==◌, ◌+◌, ◌<◌, ◌≤◌, ℕ, suc, Bool, true, false, not, ◌&&◌, cond, List, [], ◌∷◌, ◌++◌, length, map, filter, is_none, Some, refl, Contains}
use Rattle.std.specs.List.{list_any}
use Rattle.std.proofs.Common.{arith, ap, sym, subst, ◌∙◌, ◌⊎◌, inl, inr}
use Rattle.std.proofs.lemmas.Bool.{and_parts}
use Rattle.ec_base.specs.declared.ids.Hold.{Hold}
use Rattle.ec_base.specs.Holds.{clash}
use Rattle.ec_sessions.specs.OfTokens.Laws.{clear_of, holder_has, sound_granted, token-granted}
use Rattle.ec_sessions.specs.OfTokens.Tokens.{Tokens, Holder, first_holder as front, mode, token, holders, is_conflict, conflicts, is_clear, granted}
use Rattle.ec_sessions.specs.OfTokens.SoundTokens.{IsSound}
use Rattle.ec_sessions.specs.declared.recall.want.Want.{Want}
use Rattle.ec_sessions.specs.declared.recall.want.Action.{Action}
use Rattle.ec_sessions.specs.declared.recall.want.Action.TheVariants.{Grant, Recall}
use Rattle.ec_sessions.specs.OfRecall.Due.{is_due, given_to, is_told, told_of, news, recall_of, actions, actions_from, wants_after, wants_from}
use Rattle.ec_sessions.specs.OfRecall.Rounds.{is_grant, GrantsAreClear, GrantsGoIn}
use Rattle.ec_sessions.specs.OfRecall.HeldWants.{NoneFree}

pub grants_are_clear : (ts given : Tokens) (ws : List Want) → GrantsAreClear ts given (actions_from ts given ws)
grants_are_clear ts given [] = tt
grants_are_clear ts given (w ∷ ws) = go (is_due ts given w) refl (grants_are_clear ts (given_to w.session w.obj w.hold given) ws) (grants_are_clear ts given ws)
  where
    past : (hs : List Holder) → GrantsAreClear ts given (actions_from ts given ws) → GrantsAreClear ts given (map (recall_of w) hs ++ actions_from ts given ws)
    past [] later = later
    past (h ∷ hs) later = past hs later

    go : (b : Bool) → is_due ts given w ≡ b → GrantsAreClear ts (given_to w.session w.obj w.hold given) (actions_from ts (given_to w.session w.obj w.hold given) ws)
        → GrantsAreClear ts given (actions_from ts given ws)
        → GrantsAreClear ts given (cond b (Grant w.session w.obj w.hold ∷ []) (map (recall_of w) (news ts w)) ++ actions_from ts (cond b (given_to w.session w.obj w.hold given) given) ws)
    go true e after before = let p = and_parts (is_clear ts w.session w.obj w.hold) (is_clear given w.session w.obj w.hold) e in (p.0, p.1, after)
    go false e after before = past (news ts w) before

-- A want that conflicts with no recorded token has no recall due, whatever was granted before it.
pub news-clear : (ts : Tokens) (w : Want) → is_clear ts w.session w.obj w.hold ≡ true → news ts w ≡ []
news-clear ts w clear = go (conflicts ts w.session w.obj w.hold) clear
  where
    go : (holders : List Holder) → is_none (front holders) ≡ true → filter (λ holder. not (is_told w.told holder)) holders ≡ []
    go [] c = refl
    go (h ∷ hs) c = absurd (grind arith)

-- Each grant takes a want off the list.

recalls_grant_none : (w : Want) (hs : List Holder) (more : List Action) → filter is_grant (map (recall_of w) hs ++ more) ≡ filter is_grant more
recalls_grant_none w [] more = refl
recalls_grant_none w (h ∷ hs) more = recalls_grant_none w hs more

recalls_have_none : (w : Want) (hs : List Holder) (more : List Action) → list_any is_grant (map (recall_of w) hs ++ more) ≡ list_any is_grant more
recalls_have_none w [] more = refl
recalls_have_none w (h ∷ hs) more = recalls_have_none w hs more

counted_from : (ts given : Tokens) (ws : List Want) → length (wants_from ts given ws) + length (filter is_grant (actions_from ts given ws)) ≡ length ws
counted_from ts given [] = refl
counted_from ts given (w ∷ ws) = go (is_due ts given w) (counted_from ts (given_to w.session w.obj w.hold given) ws) (counted_from ts given ws)
  where
    kept : Want
    kept = record w { told = map told_of (conflicts ts w.session w.obj w.hold) }

    go : (b : Bool) → length (wants_from ts (given_to w.session w.obj w.hold given) ws) + length (filter is_grant (actions_from ts (given_to w.session w.obj w.hold given) ws)) ≡ length ws
        → length (wants_from ts given ws) + length (filter is_grant (actions_from ts given ws)) ≡ length ws
        → length (cond b [] (kept ∷ []) ++ wants_from ts (cond b (given_to w.session w.obj w.hold given) given) ws)
        + length (filter is_grant (cond b (Grant w.session w.obj w.hold ∷ []) (map (recall_of w) (news ts w)) ++ actions_from ts (cond b (given_to w.session w.obj w.hold given) given) ws)) ≡ suc (length ws)
    go true after before = omega (arith, after)
    go false after before = omega (arith, before, ap length (recalls_grant_none w (news ts w) (actions_from ts given ws)))

pub counted : (ts : Tokens) (ws : List Want) → length (wants_after ts ws) + length (filter is_grant (actions ts ws)) ≡ length ws
counted ts ws = counted_from ts [] ws

some_grant : (all : List Action) → list_any is_grant all ≡ true → 1 ≤ length (filter is_grant all)
some_grant [] e = absurd (grind arith)
some_grant (Grant s x h ∷ more) e = omega arith
some_grant (Recall s x n h ∷ more) e = some_grant more e

pub shorter : (ts : Tokens) (ws : List Want) → list_any is_grant (actions ts ws) ≡ true → length (wants_after ts ws) < length ws
shorter ts ws e = omega (arith, counted ts ws, some_grant (actions ts ws) e)

-- A round without a grant leaves nothing due.

told_all : (told : List (ℕ × ℕ)) (hs : List Holder) → ((h : Holder) → is_told (map told_of hs) h ≡ true → is_told told h ≡ true) → filter (λ h. not (is_told told h)) hs ≡ []
told_all told [] f = refl
told_all told (h ∷ hs) f = go (is_told told h) (f h (grind arith)) (told_all told hs (λ g e. f g (grind (arith, e))))
  where
    go : (b : Bool) → b ≡ true → filter (λ h. not (is_told told h)) hs ≡ [] → cond (not b) (h ∷ filter (λ h. not (is_told told h)) hs) (filter (λ h. not (is_told told h)) hs) ≡ []
    go true e r = r
    go false e r = absurd (grind (arith, e))

settled_from : (ts given : Tokens) (ws : List Want) → list_any is_grant (actions_from ts given ws) ≡ false
    → (actions_from ts given (wants_from ts given ws) ≡ []) × (wants_from ts given (wants_from ts given ws) ≡ wants_from ts given ws)
settled_from ts given [] none = (refl, refl)
settled_from ts given (w ∷ ws) none = go (is_due ts given w) refl none (settled_from ts given ws)
  where
    kept : Want
    kept = record w { told = map told_of (conflicts ts w.session w.obj w.hold) }

    go : (b : Bool) → is_due ts given w ≡ b
        → list_any is_grant (cond b (Grant w.session w.obj w.hold ∷ []) (map (recall_of w) (news ts w)) ++ actions_from ts (cond b (given_to w.session w.obj w.hold given) given) ws) ≡ false
        → (list_any is_grant (actions_from ts given ws) ≡ false → (actions_from ts given (wants_from ts given ws) ≡ []) × (wants_from ts given (wants_from ts given ws) ≡ wants_from ts given ws))
        → (actions_from ts given (cond b [] (kept ∷ []) ++ wants_from ts (cond b (given_to w.session w.obj w.hold given) given) ws) ≡ [])
        × (wants_from ts given (cond b [] (kept ∷ []) ++ wants_from ts (cond b (given_to w.session w.obj w.hold given) given) ws) ≡ cond b [] (kept ∷ []) ++ wants_from ts (cond b (given_to w.session w.obj w.hold given) given) ws)
    go true e none r = absurd (grind (arith, none))
    go false e none r =
        let later = r (sym (recalls_have_none w (news ts w) (actions_from ts given ws)) ∙ none) in
        let rest = wants_from ts given ws in
        let unheard : news ts kept ≡ [] = told_all kept.told (conflicts ts w.session w.obj w.hold) (λ h is. is) in (
          ap (λ b. cond b (Grant w.session w.obj w.hold ∷ []) (map (recall_of kept) (news ts kept)) ++ actions_from ts (cond b (given_to w.session w.obj w.hold given) given) rest) e
              ∙ ap (λ hs. map (recall_of kept) hs ++ actions_from ts given rest) unheard ∙ later.0,
          ap (λ b. cond b [] (kept ∷ []) ++ wants_from ts (cond b (given_to w.session w.obj w.hold given) given) rest) e ∙ ap (λ l. kept ∷ l) later.1,
        )

pub settled : (ts : Tokens) (ws : List Want) → list_any is_grant (actions ts ws) ≡ false → (actions ts (wants_after ts ws) ≡ []) × (wants_after ts (wants_after ts ws) ≡ wants_after ts ws)
settled ts ws none = settled_from ts [] ws none

-- What conflicts with no recorded token and with no grant conflicts with no token once the grants are recorded.

-- each token is one of the first ones, or was given since
abbrev pub TokensTurned : Tokens → Tokens → Tokens → Type 0
TokensTurned first given now = (t x : ℕ) → (token now t x ≡ token first t x) ⊎ (mode (token now t x) ≡ mode (token given t x))

none_pass : (p : Holder → Bool) (hs : List Holder) → ((h : Holder) → Contains hs h → p h ≡ false) → is_none (front (filter p hs)) ≡ true
none_pass p [] f = refl
none_pass p (h ∷ hs) f = go (p h) (f h (0, omega arith, refl)) (none_pass p hs (λ g c. f g (suc c.0, omega (arith, c.1), c.2)))
  where
    go : (b : Bool) → b ≡ false → is_none (front (filter p hs)) ≡ true → is_none (front (cond b (h ∷ filter p hs) (filter p hs))) ≡ true
    go true e r = absurd (grind (arith, e))
    go false e r = r

pub clear_now : (first given now : Tokens) (s x : ℕ) (h : Hold) → IsSound now → TokensTurned first given now → is_clear first s x h ≡ true → is_clear given s x h ≡ true → is_clear now s x h ≡ true
clear_now first given now s x h sound turned a b = none_pass (is_conflict s h) (holders now x) (λ g c. go g c (g.0 == s) refl)
  where
    quiet : (t : ℕ) → (t == s) ≡ false → clash (mode (token now t x)) h ≡ false
    quiet t d = elim (turned t x) [
      | inl e ↦ ap (λ o. clash (mode o) h) e ∙ clear_of first s x h a t d
      | inr e ↦ ap (λ m. clash m h) e ∙ clear_of given s x h b t d
    ]

    go : (g : Holder) → Contains (holders now x) g → (c : Bool) → (g.0 == s) ≡ c → is_conflict s h g ≡ false
    go g c true e = ap (λ b. not b && clash g.1 h) e
    go g c false e = ap (λ b. not b && clash g.1 h) e ∙ sym (ap (λ o. clash (mode o) h) (holder_has now x g sound.rising c)) ∙ quiet g.0 e

turned_on : (first given now : Tokens) (s x : ℕ) (h : Hold) (n : ℕ) → TokensTurned first given now → TokensTurned first (given_to s x h given) (granted s x h n now)
turned_on first given now s x h n turned t y =
    subst (λ o. (o ≡ token first t y) ⊎ (mode o ≡ mode (token (granted s x h 0 given) t y))) (sym (token-granted now s x h n t y))
    (subst (λ o. (cond ((t == s) && (y == x)) (Some (record { hold = h; number = n })) (token now t y) ≡ token first t y) ⊎ (mode (cond ((t == s) && (y == x)) (Some (record { hold = h; number = n })) (token now t y)) ≡ mode o)) (sym (token-granted given s x h 0 t y)) (go ((t == s) && (y == x))))
  where
    go : (b : Bool) → (cond b (Some (record { hold = h; number = n })) (token now t y) ≡ token first t y) ⊎ (mode (cond b (Some (record { hold = h; number = n })) (token now t y)) ≡ mode (cond b (Some (record { hold = h; number = 0 })) (token given t y)))
    go true = inr refl
    go false = turned t y

go_in_from : (first given now : Tokens) (ws : List Want) → IsSound now → NoneFree ws → TokensTurned first given now → GrantsGoIn now (actions_from first given ws)
go_in_from first given now [] sound held turned = tt
go_in_from first given now (w ∷ ws) sound held turned =
    go (is_due first given w) refl (λ n clear. go_in_from first (given_to w.session w.obj w.hold given) (granted w.session w.obj w.hold n now) ws (sound_granted now w.session sound w.obj w.hold n held.0 clear) held.1 (turned_on first given now w.session w.obj w.hold n turned))
    (go_in_from first given now ws sound held.1 turned)
  where
    past : (hs : List Holder) (more : List Action) → GrantsGoIn now more → GrantsGoIn now (map (recall_of w) hs ++ more)
    past [] more later = later
    past (h ∷ hs) more later = past hs more later

    go : (b : Bool) → is_due first given w ≡ b
        → ((n : ℕ) → is_clear now w.session w.obj w.hold ≡ true → GrantsGoIn (granted w.session w.obj w.hold n now) (actions_from first (given_to w.session w.obj w.hold given) ws))
        → GrantsGoIn now (actions_from first given ws)
        → GrantsGoIn now (cond b (Grant w.session w.obj w.hold ∷ []) (map (recall_of w) (news first w)) ++ actions_from first (cond b (given_to w.session w.obj w.hold given) given) ws)
    go true e after before =
        let p = and_parts (is_clear first w.session w.obj w.hold) (is_clear given w.session w.obj w.hold) e in
        let clear = clear_now first given now w.session w.obj w.hold sound turned p.0 p.1 in
        (held.0, clear, λ n. after n clear)
    go false e after before = past (news first w) (actions_from first given ws) before

pub go_in : (ts : Tokens) (ws : List Want) → IsSound ts → NoneFree ws → GrantsGoIn ts (actions ts ws)
go_in ts ws sound held = go_in_from ts [] ts ws sound held (λ t x. inl refl)
