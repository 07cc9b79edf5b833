-- How a commit goes on, and what a slot's function does.
use Rattle.std.proofs.Common.{◌≡◌, ◌<◌, ◌≤◌, ℕ, Bool, true, false, Option, None, Some, Result, Ok, Err, refl, sym, ap, subst, ◌∙◌, arith}
use Rattle.std.specs.Prelude.{◌==◌, ◌+◌, ◌&&◌, ◌||◌, nat_le, nat_lt, unwrap_or, is_some, is_none, List, ◌∷◌}
use Rattle.std.specs.Option.{option_map}
use Rattle.std.proofs.lemmas.Bool.Decides.{nat_tests}
use Rattle.ec_base.specs.Limits.{last_counter}
use Rattle.ec_base.specs.declared.counter.Counter.TheVariants as counter
use Rattle.ec_base.specs.declared.ids.Hold.{Hold}
use Rattle.ec_sessions.specs.Limits.{last_first_id, last_grants}
use Rattle.ec_sessions.specs.Slots.{run}
use Rattle.ec_base.specs.Tables.{put}
use Rattle.ec_sessions.specs.OfTokens.Tokens.{Tokens, token, first_clash, claimed as with_claim}
use Rattle.ec_sessions.specs.declared.tokens.token.Token.{Token}
use Rattle.ec_base.specs.declared.ids.Age.{Age}
use Rattle.ec_sessions.specs.declared.slot.Slot.{Slot}
use Rattle.ec_sessions.specs.declared.window.Window.{Window}
use Rattle.ec_durable.specs.Durable.{is_full, live, reserved, step, slot, has_batch, is_session, is_beyond, low, batch_step}
use Rattle.ec_durable.specs.declared.state.Durable.{Durable}
use Rattle.ec_durable.specs.declared.record.Record.{Record}
use Rattle.ec_durable.specs.declared.record.Record.TheVariants.{Open, End, Batch, Ids, Epoch}
use Rattle.ec_durable.specs.declared.record.RecordFault.TheVariants.{NoSession, Done, Beyond}
use Rattle.ec_volume.specs.declared.update.Update.{Update}
use Rattle.ec_durable.specs.declared.record.RecordFault.{RecordFault}
use Rattle.ec_wire.specs.declared.msg.Msg.TheVariants.{Opened, Ended, Kept, Restarted, NoRoom}
use Rattle.ec_protocol.specs.Server.{Serving, slot_of, commit, stay, tell, with_server, forget, forget_old, add_claimed, finish, tell_ended, tell_opened, open_new, spend, want, note, send_grant, claim, has_claimed, flush, may_write, epoch, in_session, grant_ids, ids_are_spent, send_ids, record_ids, with_ids, next_number, serving, new_server, start, tell_all}
use Rattle.ec_protocol.specs.declared.server.Server.{Server}
use Rattle.ec_server.specs.declared.state.Core.{Core}
use Rattle.ec_admission.specs.Clerks.{is_last}
use Rattle.ec_server.specs.Steps.{under, at_slot, Commits, IsLast}

goes_on : (r : Record) (f g : Serving → Serving) (t : Serving) → Result Durable RecordFault → Serving
goes_on r f g t res = elim res [ Ok d ↦ f (record t { server = record (t.server) { durable = d }; rec = Some r }) | Err fault ↦ g t ]

pub committed : (b : Bool) (r : Record) (f g : Serving → Serving) (d e : Durable) (old new : Core) → b ≡ true → Commits b r d e old new → commit r f g (under d old) ≡ f (under e new)
unfolding goes_on
committed false r f g d e old new p h = absurd cc
committed true r f g d e old new p h = ap (goes_on r f g (under d old)) h.1 ∙ ap f (sym h.0)

pub refused : (b : Bool) (r : Record) (f g : Serving → Serving) (d e : Durable) (old new : Core) → b ≡ false → Commits b r d e old new → commit r f g (under d old) ≡ g (under e new)
unfolding goes_on
refused true r f g d e old new p h = absurd cc
refused false r f g d e old new p h = ap (goes_on r f g (under d old)) h.2.1 ∙ ap (λ x. g (under x old)) (sym h.0) ∙ ap g (sym h.1)

slot_or : ℕ → (Slot → Serving → Serving) → Serving → Option Slot → Serving
slot_or c f t o = elim o [ None ↦ t | Some sl ↦ f sl t ]

pub at_some : (c : ℕ) (f : Slot → Serving → Serving) (t : Serving) (sl : Slot) → slot_of c t ≡ Some sl → at_slot c f t ≡ f sl t
unfolding slot_or
at_some c f t sl h = ap (slot_or c f t) h

pub at_none : (c : ℕ) (f : Slot → Serving → Serving) (t : Serving) → slot_of c t ≡ None → at_slot c f t ≡ t
unfolding slot_or
at_none c f t h = ap (slot_or c f t) h

abbrev Finishes : ℕ → ℕ → Window → Bool → Durable → Durable → Core → Core → Core → Core → Type 0
Finishes c s w b d e old new gone told =
    Commits b (End c s) d e old new → ((x : Durable) → under x gone ≡ with_server (forget s) (under x new))
    → ((x : Durable) → under x told ≡ tell c (Ended s w.low w.mask) (under x gone)) → at_slot c (finish c) (under d old) ≡ under e told

pub finishes : (c : ℕ) (sl : Slot) (s : ℕ) (w : Window) (b : Bool) (d e : Durable) (old new gone told : Core) → slot d c ≡ Some sl → sl.session ≡ s → sl.window ≡ w → b ≡ true → Finishes c s w b d e old new gone told
finishes c sl s w b d e old new gone told at ps pw p = subst (λ s. Finishes c s w b d e old new gone told) ps (subst (λ w. Finishes c sl.session w b d e old new gone told) pw same)
  where
    same : Finishes c sl.session sl.window b d e old new gone told
    same done forgets tells =
        at_some c (finish c) (under d old) sl at
        ∙ committed b (End c sl.session) (λ u. tell_ended c sl (with_server (forget sl.session) u)) stay d e old new p done
        ∙ ap (tell_ended c sl) (sym (forgets e)) ∙ sym (tells e)

pub opens : (c : ℕ) (age : Age) (s : ℕ) (old : Option ℕ) (b : Bool) (n : ℕ) (d e : Durable) (before new gone claimed told : Core) → b ≡ true → n ≡ e.epoch → Commits b (Open c age s) d e before new
    → ((x : Durable) → under x gone ≡ with_server (forget_old old) (under x new)) → ((x : Durable) → under x claimed ≡ with_server (add_claimed s) (under x gone))
    → ((x : Durable) → under x told ≡ tell c (Opened age s n) (under x claimed)) → commit (Open c age s) (tell_opened c age s old) stay (under d before) ≡ under e told
opens c age s old b n d e before new gone claimed told p q done forgets claims tells =
    committed b (Open c age s) (tell_opened c age s old) stay d e before new p done
    ∙ ap (λ u. tell c (Opened age s e.epoch) (with_server (add_claimed s) u)) (sym (forgets e))
    ∙ ap (tell c (Opened age s e.epoch)) (sym (claims e)) ∙ ap (λ n. tell c (Opened age s n) (under e claimed)) (sym q) ∙ sym (tells e)

pub not_le : (a b : ℕ) → b < a → nat_le a b ≡ false
not_le a b h = grind (arith, nat_tests)

not_less : (a b : ℕ) → b ≤ a → nat_lt a b ≡ false
not_less a b h = grind (arith, nat_tests)

unfoldable pub spent_or : Serving → Serving → Bool → Serving
spent_or t u b = elim b [ true ↦ t | false ↦ u ]

abbrev Opens : ℕ → Age → Option ℕ → Bool → ℕ → Durable → Durable → Core → Core → Core → Core → Core → ℕ → Type 0
Opens c age old b n d e before new gone claimed told s =
    Commits b (Open c age s) d e before new
    → ((x : Durable) → under x gone ≡ with_server (forget_old old) (under x new)) → ((x : Durable) → under x claimed ≡ with_server (add_claimed s) (under x gone))
    → ((x : Durable) → under x told ≡ tell c (Opened age s n) (under x claimed)) → open_new c age old (under d before) ≡ under e told

pub opened : (c : ℕ) (age : Age) (s : ℕ) (old : Option ℕ) (b : Bool) (n : ℕ) (d e : Durable) (before new gone claimed told : Core) → b ≡ true → n ≡ e.epoch → s ≡ d.next_session → s < last_counter → Opens c age old b n d e before new gone claimed told s
unfolding spent_or
opened c age s old b n d e before new gone claimed told p q is less = subst (Opens c age old b n d e before new gone claimed told) (sym is) same
  where
    same : Opens c age old b n d e before new gone claimed told d.next_session
    same done forgets claims tells =
        ap (spent_or (spend counter.Session (under d before)) (commit (Open c age d.next_session) (tell_opened c age d.next_session old) stay (under d before))) (not_le last_counter d.next_session (subst (λ s. s < last_counter) is less))
        ∙ opens c age d.next_session old b n d e before new gone claimed told p q done forgets claims tells

-- A want, by the token that the session has.
abbrev pub token_seen : Token → Hold × ℕ
token_seen k = (k.hold, k.number)

want_by : ℕ → ℕ → ℕ → Hold → ℕ → Serving → Option Token → Serving
want_by c ss x h last t o = elim o [ None ↦ note ss x h t | Some k ↦ elim (nat_lt last k.number) [ true ↦ send_grant c ss x k.hold k.number t | false ↦ note ss x h t ] ]

pub wants_none : (c ss x : ℕ) (h : Hold) (last : ℕ) (t : Serving) → option_map token_seen (token t.server.tokens ss x) ≡ None → want c ss x h last t ≡ note ss x h t
unfolding want_by
wants_none c ss x h last t = go (token t.server.tokens ss x)
  where
    go : (o : Option Token) → option_map token_seen o ≡ None → want_by c ss x h last t o ≡ note ss x h t
    go None p = refl
    go (Some k) p = absurd cc

pub wants_low : (c ss x : ℕ) (h : Hold) (last : ℕ) (t : Serving) (p : Hold × ℕ) → option_map token_seen (token t.server.tokens ss x) ≡ Some p → p.1 ≤ last → want c ss x h last t ≡ note ss x h t
unfolding want_by
wants_low c ss x h last t p = go (token t.server.tokens ss x)
  where
    noted : Bool → Token → Serving
    noted b k = elim b [ true ↦ send_grant c ss x k.hold k.number t | false ↦ note ss x h t ]

    go : (o : Option Token) → option_map token_seen o ≡ Some p → p.1 ≤ last → want_by c ss x h last t o ≡ note ss x h t
    go None e low = absurd cc
    go (Some k) e low =
        let same : k.number ≡ p.1 = ap (λ o. (unwrap_or o p).1) e in
        ap (λ b. noted b k) (not_less last k.number (subst (λ n. n ≤ last) (sym same) low))

-- A claim that clashes with nothing.
abbrev pub recorded : ℕ → List (ℕ × Hold) → Server → Server
recorded ss list s = record s { tokens = with_claim ss list s.tokens; claimed = ss ∷ s.claimed }

claim_by : ℕ → ℕ → List (ℕ × Hold) → Slot → Serving → Bool → Bool → Serving
claim_by c ss list sl t old clear = elim old [ true ↦ t | false ↦ elim clear [ true ↦ with_server (recorded ss list) t | false ↦ finish c sl t ] ]

pub claims : (c ss : ℕ) (list : List (ℕ × Hold)) (t : Serving) → is_some (slot_of c t) ≡ true → has_claimed ss t.server ≡ false → first_clash t.server.tokens ss list ≡ None
    → at_slot c (claim c ss list) t ≡ with_server (recorded ss list) t
unfolding claim_by
claims c ss list t some new clear = go (slot_of c t) refl some
  where
    go : (o : Option Slot) → slot_of c t ≡ o → is_some o ≡ true → at_slot c (claim c ss list) t ≡ with_server (recorded ss list) t
    go None p h = absurd cc
    go (Some sl) p h =
        at_some c (claim c ss list) t sl p
        ∙ ap (λ b. claim_by c ss list sl t b (is_none (first_clash t.server.tokens ss list))) new
        ∙ ap (λ f. claim_by c ss list sl t false (is_none f)) clear

-- A batch that the window has, and one that is committed.
unfoldable pub flush_by : ℕ → ℕ → ℕ → List (ℕ × Update) → Slot → Serving → Bool → Bool → Serving
flush_by c ss b ops sl t had may =
    elim had [
      | true ↦ tell c (Kept ss (epoch t) b) t
      | false ↦ elim may [ true ↦ commit (Batch c ss b ops) (λ u. tell c (Kept ss (epoch u) b) u) (finish c sl) t | false ↦ finish c sl t ]
    ]

pub keeps_again : (c ss b : ℕ) (ops : List (ℕ × Update)) (t : Serving) → has_batch b (slot_of c t) ≡ true → at_slot c (flush c ss b ops) t ≡ tell c (Kept ss (epoch t) b) t
unfolding flush_by
keeps_again c ss b ops t = go (slot_of c t) refl
  where
    go : (o : Option Slot) → slot_of c t ≡ o → has_batch b o ≡ true → at_slot c (flush c ss b ops) t ≡ tell c (Kept ss (epoch t) b) t
    go None p h = absurd cc
    go (Some sl) p h = at_some c (flush c ss b ops) t sl p ∙ ap (λ x. flush_by c ss b ops sl t x (may_write t.server.tokens ss ops)) h

pub no_session : (c ss b : ℕ) (ops : List (ℕ × Update)) (d e : Durable) → slot d c ≡ None → step (Batch c ss b ops) d ≡ Ok e → ⊥
no_session c ss b ops d e p h = not_Ok (sym (ap refusal p) ∙ h)
  where
    refusal : Option Slot → Result Durable RecordFault
    refusal o =
        elim (is_session ss o) [
          | false ↦ Err NoSession
          | true ↦ elim (has_batch b o) [ true ↦ Err (Done b) | false ↦ elim (is_beyond b o) [ true ↦ Err (Beyond (low o)) | false ↦ batch_step c b ops d ] ]
        ]

    not_Ok : {f : RecordFault} {e : Durable} → ◌≡◌ {A = Result Durable RecordFault} (Err f) (Ok e) → ⊥
    not_Ok p = absurd cc

pub keeps_new : (x : Bool) (c ss b n : ℕ) (ops : List (ℕ × Update)) (d e : Durable) (old new told : Core) → x ≡ true → n ≡ e.epoch → has_batch b (slot d c) ≡ false → may_write old.tokens ss ops ≡ true → Commits x (Batch c ss b ops) d e old new
    → ((y : Durable) → under y told ≡ tell c (Kept ss n b) (under y new)) → at_slot c (flush c ss b ops) (under d old) ≡ under e told
unfolding flush_by
keeps_new false c ss b n ops d e old new told p q had may done tells = absurd cc
keeps_new true c ss b n ops d e old new told p q had may done tells = go (slot d c) refl had
  where
    go : (o : Option Slot) → slot d c ≡ o → has_batch b o ≡ false → at_slot c (flush c ss b ops) (under d old) ≡ under e told
    go None p h = absurd (no_session c ss b ops d e p done.1)
    go (Some sl) p h =
        at_some c (flush c ss b ops) (under d old) sl p
        ∙ ap (λ x. flush_by c ss b ops sl (under d old) x (may_write old.tokens ss ops)) h
        ∙ ap (λ x. flush_by c ss b ops sl (under d old) false x) may
        ∙ committed true (Batch c ss b ops) (λ u. tell c (Kept ss (epoch u) b) u) (finish c sl) d e old new refl done
        ∙ ap (λ n. tell c (Kept ss n b) (under e new)) (sym q) ∙ sym (tells e)

-- Which messages are taken.
session_by : ℕ → ℕ → (Slot → Serving → Serving) → Slot → Serving → Bool → Bool → Bool → Serving
session_by c ss f sl t same opened now =
    elim same [
      | false ↦ t
      | true ↦ elim opened [ false ↦ tell_ended c sl t | true ↦ elim now [ false ↦ tell c (Restarted ss (epoch t)) t | true ↦ f sl t ] ]
    ]

pub passes : (c ss e : ℕ) (b : Bool) (f : Slot → Serving → Serving) (t : Serving) → is_last ss (slot_of c t) ≡ false → in_session c ss e b f t ≡ t
unfolding session_by slot_or
passes c ss e b f t = go (slot_of c t) refl
  where
    test : Slot → Serving → Serving
    test sl t = session_by c ss f sl t (sl.session == ss) sl.is_open ((e == epoch t) && (b || has_claimed ss t.server))

    go : (o : Option Slot) → slot_of c t ≡ o → is_last ss o ≡ false → in_session c ss e b f t ≡ t
    go None p h = ap (slot_or c test t) p
    go (Some sl) p h = ap (slot_or c test t) p ∙ ap (λ x. session_by c ss f sl t x sl.is_open ((e == epoch t) && (b || has_claimed ss t.server))) h

pub tests : (c ss e : ℕ) (b opened now : Bool) (w : Window) (f : Slot → Serving → Serving) (t : Serving) → IsLast ss opened w (slot_of c t) → ((e == epoch t) && (b || has_claimed ss t.server)) ≡ now
    → in_session c ss e b f t ≡ elim opened as (λ _. Serving) [ false ↦ tell c (Ended ss w.low w.mask) t | true ↦ elim now as (λ _. Serving) [ false ↦ tell c (Restarted ss (epoch t)) t | true ↦ at_slot c f t ] ]
unfolding session_by slot_or
tests c ss e b opened now w f t h n = go (slot_of c t) refl h
  where
    test : Slot → Serving → Serving
    test sl t = session_by c ss f sl t (sl.session == ss) sl.is_open ((e == epoch t) && (b || has_claimed ss t.server))

    by : (sl : Slot) → slot_of c t ≡ Some sl → (x y : Bool) → session_by c ss f sl t true x y ≡ elim x as (λ _. Serving) [ false ↦ tell c (Ended sl.session sl.window.low sl.window.mask) t | true ↦ elim y as (λ _. Serving) [ false ↦ tell c (Restarted ss (epoch t)) t | true ↦ at_slot c f t ] ]
    by sl p false y = refl
    by sl p true false = refl
    by sl p true true = sym (at_some c f t sl p)

    answer : ℕ → Window → Bool → Bool → Serving
    answer s v x y = elim x as (λ _. Serving) [ false ↦ tell c (Ended s v.low v.mask) t | true ↦ elim y as (λ _. Serving) [ false ↦ tell c (Restarted ss (epoch t)) t | true ↦ at_slot c f t ] ]

    go : (o : Option Slot) → slot_of c t ≡ o → IsLast ss opened w o → in_session c ss e b f t ≡ answer ss w opened now
    go None p h = absurd h
    go (Some sl) p h =
        ap (slot_or c test t) p
        ∙ ap (λ x. session_by c ss f sl t x sl.is_open ((e == epoch t) && (b || has_claimed ss t.server))) h.0
        ∙ by sl p sl.is_open ((e == epoch t) && (b || has_claimed ss t.server))
        ∙ ap (λ s. answer s sl.window sl.is_open ((e == epoch t) && (b || has_claimed ss t.server))) h.1
        ∙ ap (λ v. answer ss v sl.is_open ((e == epoch t) && (b || has_claimed ss t.server))) h.3
        ∙ ap (λ x. answer ss w x ((e == epoch t) && (b || has_claimed ss t.server))) h.2
        ∙ ap (answer ss w opened) n

-- Ids.
unfoldable pub ids_by : ℕ → ℕ → ℕ → ℕ → Serving → Bool → Bool → Serving
ids_by c ss got ask t full spent =
    elim full [
      | true ↦ tell c (NoRoom ss (epoch t) ask (live t.server.durable) (reserved t.server.durable)) t
      | false ↦ elim spent [
        | true ↦ spend counter.Id t
        | false ↦ commit (Ids c ss got t.server.durable.next_id) (λ u. send_ids c ss got t.server.durable.next_id (record_ids ss t.server.durable.next_id u)) stay t
      ]
    ]

pub no_room : (c ss got ask : ℕ) (t : Serving) → is_full t.server.durable ≡ true → grant_ids c ss got ask t ≡ tell c (NoRoom ss (epoch t) ask (live t.server.durable) (reserved t.server.durable)) t
unfolding ids_by
no_room c ss got ask t full = ap (λ x. ids_by c ss got ask t x (ids_are_spent got t)) full

abbrev GrantsIds : ℕ → ℕ → ℕ → ℕ → Bool → Durable → Durable → Core → Core → Core → Core → ℕ → Type 0
GrantsIds c ss got ask b d e old new noted sent n =
    Commits b (Ids c ss got n) d e old new → ((x : Durable) → under x noted ≡ record_ids ss n (under x new)) → send_ids c ss got n (under e noted) ≡ under e sent → grant_ids c ss got ask (under d old) ≡ under e sent

pub granted_ids : (c ss got ask n : ℕ) (b : Bool) (d e : Durable) (old new noted sent : Core) → b ≡ true → is_full d ≡ false → (nat_lt last_first_id d.next_id || nat_le last_grants got) ≡ false → n ≡ d.next_id
    → GrantsIds c ss got ask b d e old new noted sent n
unfolding ids_by
granted_ids c ss got ask n b d e old new noted sent p full fits is = subst (GrantsIds c ss got ask b d e old new noted sent) (sym is) same
  where
    same : GrantsIds c ss got ask b d e old new noted sent d.next_id
    same done records sends =
        ap (λ x. ids_by c ss got ask (under d old) x (ids_are_spent got (under d old))) full
        ∙ ap (λ x. ids_by c ss got ask (under d old) false x) fits
        ∙ committed b (Ids c ss got d.next_id) (λ u. send_ids c ss got d.next_id (record_ids ss d.next_id u)) stay d e old new p done
        ∙ ap (send_ids c ss got d.next_id) (sym (records e)) ∙ sends

pub records_ids : (ss first n : ℕ) (t m f : Serving) (ts : Tokens) (rs : List (ℕ × ℕ)) → m ≡ next_number t → n ≡ m.server.number → with_ids ss n (run first 16) m.server.tokens ≡ ts → rs ≡ put ss n m.server.recorded
    → f ≡ with_server (λ s. record s { tokens = ts; recorded = rs }) m → f ≡ record_ids ss first t
records_ids ss first n t m f ts rs next is tokens noted whole =
    whole
    ∙ ap (λ (us : Tokens). with_server (λ s. record s { tokens = us; recorded = rs }) m) (sym tokens)
    ∙ ap (λ (q : List (ℕ × ℕ)). with_server (λ s. record s { tokens = with_ids ss n (run first 16) m.server.tokens; recorded = q }) m) noted
    ∙ ap (λ (k : ℕ). with_server (λ s. record s { tokens = with_ids ss k (run first 16) m.server.tokens; recorded = put ss k m.server.recorded }) m) is
    ∙ ap (with_server (λ s. record s { tokens = with_ids ss s.number (run first 16) s.tokens; recorded = put ss s.number s.recorded })) next

-- A start.
unfoldable pub start_by : Durable → Serving → Bool → Serving
start_by d t b = elim b [ true ↦ spend counter.Epoch t | false ↦ commit (Epoch (d.epoch + 1)) (λ u. tell_all 0 u.server.durable.sessions u) stay t ]

abbrev Starts : Bool → Durable → Durable → Core → Core → Core → ℕ → Type 0
Starts b d e old new told n = Commits b (Epoch (n + 1)) d e old new → tell_all 0 e.sessions (under e new) ≡ under e told → start d ≡ under e told

pub started : (b : Bool) (n : ℕ) (d e : Durable) (old new told : Core) → ((x : Durable) → under x old ≡ serving (new_server x)) → b ≡ true → n ≡ d.epoch → n < last_counter → Starts b d e old new told n
unfolding start_by
started b n d e old new told begun p is less = subst (Starts b d e old new told) (sym is) same
  where
    same : Starts b d e old new told d.epoch
    same done tells =
        ap (start_by d (serving (new_server d))) (not_le last_counter d.epoch (subst (λ m. m < last_counter) is less))
        ∙ ap (commit (Epoch (d.epoch + 1)) (λ u. tell_all 0 u.server.durable.sessions u) stay) (sym (begun d))
        ∙ committed b (Epoch (d.epoch + 1)) (λ u. tell_all 0 u.server.durable.sessions u) stay d e old new p done
        ∙ tells
