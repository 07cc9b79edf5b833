-- What a want gets, and the rounds of serving.
use Rattle.std.proofs.Common.{◌≡◌, refl, sym, ap, subst, ◌∙◌, arith, ◌<◌, ◌+◌, ℕ, zero, suc, Bool, true, false, not, ◌==◌, ◌&&◌, ◌||◌, cond, List, [], ◌∷◌, ◌++◌, map, length, filter, append-nil}
use Rattle.std.specs.List.{list_any}
use Rattle.std.proofs.lemmas.Bool.{true≢false}
use Rattle.ec_base.specs.declared.counter.Counter.TheVariants as counter
use Rattle.ec_base.specs.declared.ids.Hold.{Hold}
use Rattle.ec_sessions.specs.OfTokens.Tokens.{Tokens, Holder, conflicts, is_clear}
use Rattle.ec_sessions.specs.OfRecall.Due.{is_due, is_told, told_of, news, recall_of, actions, wants_after}
use Rattle.ec_sessions.specs.OfRecall.Laws.{settled, shorter}
use Rattle.ec_sessions.specs.OfRecall.Rounds as rounds
use Rattle.ec_sessions.specs.declared.recall.want.Action.{Action}
use Rattle.ec_sessions.specs.declared.recall.want.Action.TheVariants.{Grant, Recall}
use Rattle.ec_sessions.specs.declared.recall.want.Want.{Want}
use Rattle.ec_protocol.specs.Server.{Serving, serve, serve_rounds, all_claimed, grant, act, act_all, is_grant, is_last_number, next_number, spend, with_server}
use Rattle.ec_machine_laws.specs.Serving.{with_wants, telling}
use Rattle.ec_base.proofs.Numbers.{same-self}
use Rattle.ec_base.proofs.Bools.{and-true}

-- One want.

due : (ts : Tokens) (w : Want) (b : Bool) → is_clear ts w.session w.obj w.hold ≡ b → is_due ts [] w ≡ b
due ts w b e = and-true (is_clear ts w.session w.obj w.hold) ∙ e

pub one-granted : (ts : Tokens) (w : Want) → is_clear ts w.session w.obj w.hold ≡ true → actions ts (w ∷ []) ≡ Grant w.session w.obj w.hold ∷ []
one-granted ts w e = ap (λ b. cond b (Grant w.session w.obj w.hold ∷ []) (map (recall_of w) (news ts w)) ++ []) (due ts w true e)

pub one-left : (ts : Tokens) (w : Want) → is_clear ts w.session w.obj w.hold ≡ true → wants_after ts (w ∷ []) ≡ []
one-left ts w e = ap (λ b. cond {A = List Want} b [] (telling (conflicts ts w.session w.obj w.hold) w ∷ []) ++ []) (due ts w true e)

pub one-recalled : (ts : Tokens) (w : Want) → is_clear ts w.session w.obj w.hold ≡ false → actions ts (w ∷ []) ≡ map (recall_of w) (news ts w)
one-recalled ts w e = ap (λ b. cond b (Grant w.session w.obj w.hold ∷ []) (map (recall_of w) (news ts w)) ++ []) (due ts w false e) ∙ append-nil (map (recall_of w) (news ts w))

pub one-stays : (ts : Tokens) (w : Want) → is_clear ts w.session w.obj w.hold ≡ false → wants_after ts (w ∷ []) ≡ telling (conflicts ts w.session w.obj w.hold) w ∷ []
one-stays ts w e = ap (λ b. cond {A = List Want} b [] (telling (conflicts ts w.session w.obj w.hold) w ∷ []) ++ []) (due ts w false e)

-- Who was told.

none-told : (gs : List Holder) → filter (λ g. not (is_told [] g)) gs ≡ gs
none-told [] = refl
none-told (g ∷ gs) = ap (λ zs. g ∷ zs) (none-told gs)

pub all-news : (ts : Tokens) (w : Want) → w.told ≡ [] → news ts w ≡ conflicts ts w.session w.obj w.hold
all-news ts w e = ap (λ told. filter (λ g. not (is_told told g)) (conflicts ts w.session w.obj w.hold)) e ∙ none-told (conflicts ts w.session w.obj w.hold)

self-told : (g : Holder) (told : List (ℕ × ℕ)) → is_told (told_of g ∷ told) g ≡ true
self-told g told = ap (λ b. b && (g.2 == g.2) || is_told told g) (same-self g.0) ∙ ap (λ b. b || is_told told g) (same-self g.2)

more-told : (h g : Holder) (told : List (ℕ × ℕ)) → is_told told g ≡ true → is_told (told_of h ∷ told) g ≡ true
more-told h g told e = go ((h.0 == g.0) && (h.2 == g.2))
  where
    go : (b : Bool) → (b || is_told told g) ≡ true
    go true = refl
    go false = e

told-part : (told : List (ℕ × ℕ)) (p : Holder → Bool) (gs : List Holder) → ((g : Holder) → is_told (map told_of gs) g ≡ true → is_told told g ≡ true) → filter (λ g. not (is_told told g)) (filter p gs) ≡ []
told-part told p [] f = refl
told-part told p (g ∷ gs) f = go (p g) (f g (self-told g (map told_of gs))) (told-part told p gs (λ h e. f h (more-told g h (map told_of gs) e)))
  where
    go : (b : Bool) → is_told told g ≡ true → filter (λ h. not (is_told told h)) (filter p gs) ≡ [] → filter (λ h. not (is_told told h)) (cond b (g ∷ filter p gs) (filter p gs)) ≡ []
    go true e r = ap (λ b. cond (not b) (g ∷ filter (λ h. not (is_told told h)) (filter p gs)) (filter (λ h. not (is_told told h)) (filter p gs))) e ∙ r
    go false e r = r

pub no-news : (ts : Tokens) (w : Want) (gs : List Holder) (p : Holder → Bool) → w.told ≡ map told_of gs → conflicts ts w.session w.obj w.hold ≡ filter p gs → news ts w ≡ []
no-news ts w gs p e q =
    ap (λ told. filter (λ g. not (is_told told g)) (conflicts ts w.session w.obj w.hold)) e
    ∙ ap (filter (λ g. not (is_told (map told_of gs) g))) q ∙ told-part (map told_of gs) p gs (λ g t. t)

-- Actions.

pub recalls-grant : (w : Want) (gs : List Holder) → list_any is_grant (map (recall_of w) gs) ≡ false
recalls-grant w [] = refl
recalls-grant w (g ∷ gs) = recalls-grant w gs

same-grants : (acts : List Action) → list_any rounds.is_grant acts ≡ list_any is_grant acts
same-grants [] = refl
same-grants (Grant s x h ∷ acts) = refl
same-grants (Recall s x n h ∷ acts) = same-grants acts

next-recalls : (t : Serving) → (next_number t).server.recalls ≡ t.server.recalls
next-recalls t = go (is_last_number t)
  where
    go : (b : Bool) → (elim b as (λ z. Serving) [ true ↦ spend counter.Number t | false ↦ with_server (λ s. record s { number = s.number + 1 }) t ]).server.recalls ≡ t.server.recalls
    go true = refl
    go false = refl

grant-recalls : (s x : ℕ) (h : Hold) (t : Serving) → (grant s x h t).server.recalls ≡ t.server.recalls
grant-recalls s x h t = next-recalls t

acts-recalls : (acts : List Action) (t : Serving) → (act_all acts t).server.recalls ≡ t.server.recalls
acts-recalls [] t = refl
acts-recalls (Grant s x h ∷ acts) t = acts-recalls acts (grant s x h t) ∙ grant-recalls s x h t
acts-recalls (Recall s x n h ∷ acts) t = acts-recalls acts (act (Recall s x n h) t)

acts-tokens : (acts : List Action) (t : Serving) → list_any is_grant acts ≡ false → (act_all acts t).server.tokens ≡ t.server.tokens
acts-tokens [] t e = refl
acts-tokens (Grant s x h ∷ acts) t e = absurd (true≢false e)
acts-tokens (Recall s x n h ∷ acts) t e = acts-tokens acts (act (Recall s x n h) t) e

-- Rounds.

-- a round that does these, where these wants stay
abbrev round : ℕ → Serving → List Action → List Want → Serving
round k t acts ws = elim (list_any is_grant acts) as (λ z. Serving) [ true ↦ serve_rounds k (act_all acts (with_wants ws t)) | false ↦ act_all acts (with_wants ws t) ]

round-none : (k : ℕ) (t : Serving) → actions t.server.tokens t.server.recalls ≡ [] → wants_after t.server.tokens t.server.recalls ≡ t.server.recalls → serve_rounds (suc k) t ≡ t
round-none k t e q = ap (λ acts. round k t acts (wants_after t.server.tokens t.server.recalls)) e ∙ ap (λ ws. round k t [] ws) q

pub none-due : (t : Serving) → actions t.server.tokens t.server.recalls ≡ [] → wants_after t.server.tokens t.server.recalls ≡ t.server.recalls → serve t ≡ t
none-due t e q = go (all_claimed t.server)
  where
    go : (b : Bool) → elim b as (λ z. Serving) [ true ↦ serve_rounds (suc (length t.server.recalls)) t | false ↦ t ] ≡ t
    go true = round-none (length t.server.recalls) t e q
    go false = refl

pub no-want : (t : Serving) → t.server.recalls ≡ [] → serve t ≡ t
no-want t e = none-due t (ap (actions t.server.tokens) e) (ap (wants_after t.server.tokens) e ∙ sym e)

pub unclaimed : (t : Serving) → all_claimed t.server ≡ false → serve t ≡ t
unclaimed t e = ap (λ b. elim b as (λ z. Serving) [ true ↦ serve_rounds (suc (length t.server.recalls)) t | false ↦ t ]) e

claimed : (t : Serving) → all_claimed t.server ≡ true → serve t ≡ serve_rounds (suc (length t.server.recalls)) t
claimed t e = ap (λ b. elim b as (λ z. Serving) [ true ↦ serve_rounds (suc (length t.server.recalls)) t | false ↦ t ]) e

one-round : (t : Serving) (w : Want) → all_claimed t.server ≡ true → t.server.recalls ≡ w ∷ [] → serve t ≡ round 1 t (actions t.server.tokens (w ∷ [])) (wants_after t.server.tokens (w ∷ []))
one-round t w c e = claimed t c ∙ ap (λ ws. round (length ws) t (actions t.server.tokens ws) (wants_after t.server.tokens ws)) e

pub serve-granted : (t : Serving) (w : Want) → all_claimed t.server ≡ true → t.server.recalls ≡ w ∷ [] → is_clear t.server.tokens w.session w.obj w.hold ≡ true → serve t ≡ grant w.session w.obj w.hold (with_wants [] t)
serve-granted t w c e q =
    one-round t w c e ∙ ap (λ acts. round 1 t acts (wants_after t.server.tokens (w ∷ []))) (one-granted t.server.tokens w q)
    ∙ ap (λ ws. round 1 t (Grant w.session w.obj w.hold ∷ []) ws) (one-left t.server.tokens w q) ∙ round-none 0 u (ap (actions u.server.tokens) empty) (ap (wants_after u.server.tokens) empty ∙ sym empty)
  where
    u : Serving
    u = grant w.session w.obj w.hold (with_wants [] t)

    empty : u.server.recalls ≡ []
    empty = grant-recalls w.session w.obj w.hold (with_wants [] t)

pub serve-recalled : (t : Serving) (w : Want) → all_claimed t.server ≡ true → t.server.recalls ≡ w ∷ [] → is_clear t.server.tokens w.session w.obj w.hold ≡ false
    → serve t ≡ act_all (map (recall_of w) (news t.server.tokens w)) (with_wants (telling (conflicts t.server.tokens w.session w.obj w.hold) w ∷ []) t)
serve-recalled t w c e q =
    one-round t w c e ∙ ap (λ acts. round 1 t acts (wants_after t.server.tokens (w ∷ []))) (one-recalled t.server.tokens w q)
    ∙ ap (λ ws. round 1 t (map (recall_of w) (news t.server.tokens w)) ws) (one-stays t.server.tokens w q)
    ∙ ap (λ b. elim b as (λ z. Serving) [ true ↦ serve_rounds 1 (act_all (map (recall_of w) (news t.server.tokens w)) after) | false ↦ act_all (map (recall_of w) (news t.server.tokens w)) after ]) (recalls-grant w (news t.server.tokens w))
  where
    after : Serving
    after = with_wants (telling (conflicts t.server.tokens w.session w.obj w.hold) w ∷ []) t

-- The end of the rounds.

abbrev IsStill : Serving → Type 0
IsStill t = (actions t.server.tokens t.server.recalls ≡ []) × (wants_after t.server.tokens t.server.recalls ≡ t.server.recalls)

rounds-end : (k : ℕ) (t : Serving) → length t.server.recalls < k → IsStill (serve_rounds k t)
rounds-end zero t l = absurd (omega (arith, l))
rounds-end (suc k) t l = go (list_any is_grant (actions t.server.tokens t.server.recalls)) refl (λ u m. rounds-end k u m)
  where
    go : (b : Bool) → list_any is_grant (actions t.server.tokens t.server.recalls) ≡ b → ((u : Serving) → length u.server.recalls < k → IsStill (serve_rounds k u))
        → IsStill (elim b as (λ z. Serving) [
          | true ↦ serve_rounds k (act_all (actions t.server.tokens t.server.recalls) (with_wants (wants_after t.server.tokens t.server.recalls) t))
          | false ↦ act_all (actions t.server.tokens t.server.recalls) (with_wants (wants_after t.server.tokens t.server.recalls) t)
        ])
    go true e more =
        let less : length (wants_after t.server.tokens t.server.recalls) < length t.server.recalls = shorter t.server.tokens t.server.recalls (same-grants (actions t.server.tokens t.server.recalls) ∙ e) in
        more (act_all (actions t.server.tokens t.server.recalls) (with_wants (wants_after t.server.tokens t.server.recalls) t))
        (omega (arith, l, less, ap length (acts-recalls (actions t.server.tokens t.server.recalls) (with_wants (wants_after t.server.tokens t.server.recalls) t))))
    go false e more =
        let done = settled t.server.tokens t.server.recalls (same-grants (actions t.server.tokens t.server.recalls) ∙ e) in
        let here = acts-recalls (actions t.server.tokens t.server.recalls) (with_wants (wants_after t.server.tokens t.server.recalls) t) in
        let there = acts-tokens (actions t.server.tokens t.server.recalls) (with_wants (wants_after t.server.tokens t.server.recalls) t) e in (
          ap (λ ts. actions ts (act_all (actions t.server.tokens t.server.recalls) (with_wants (wants_after t.server.tokens t.server.recalls) t)).server.recalls) there ∙ ap (actions t.server.tokens) here ∙ done.0,
          ap (λ ts. wants_after ts (act_all (actions t.server.tokens t.server.recalls) (with_wants (wants_after t.server.tokens t.server.recalls) t)).server.recalls) there ∙ ap (wants_after t.server.tokens) here ∙ done.1 ∙ sym here,
        )

pub serving-still : (t : Serving) → all_claimed t.server ≡ true → IsStill (serve t)
serving-still t c = subst IsStill (sym (claimed t c)) (rounds-end (suc (length t.server.recalls)) t (omega arith))

pub serving-ends : (t : Serving) → all_claimed t.server ≡ true → actions (serve t).server.tokens (serve t).server.recalls ≡ []
serving-ends t c = (serving-still t c).0

pub serving-again : (t : Serving) → all_claimed t.server ≡ true → serve (serve t) ≡ serve t
serving-again t c = let s = serving-still t c in none-due (serve t) s.0 s.1
