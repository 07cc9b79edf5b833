-- Each session with a token or a want stays open in a clerk's slot, and a step commits at most one record. No public clause cites this file.
use Rattle.std.proofs.Common.{◌≡◌, ◌≢◌, refl, sym, ap, subst, ◌∙◌, arith, ℕ, Bool, true, false, cond, not, ◌&&◌, ◌||◌, List, [], ◌∷◌, ◌++◌, map, filter, Option, None, Some, Result, Ok, Err, length}
use Rattle.std.specs.Prelude.{◌==◌, ◌+◌, nat_lt, nat_le, is_some, is_none}
use Rattle.std.specs.Ordering.{nat_cmp, eq_by_cmp}
use Rattle.std.specs.Cmp.{unsigned_ties}
use Rattle.std.specs.FinMap.Entries.{put, by_order}
use Rattle.std.specs.declared.cmp.Ordering.TheVariants.{Less, Equal, Greater}
use Rattle.std.proofs.lemmas.Bool.Decides.{nat_tests}
use Rattle.ec_base.specs.Limits.{last_counter}
use Rattle.ec_base.specs.Sorted.{without}
use Rattle.ec_base.specs.Tables as tables
use Rattle.ec_base.specs.declared.counter.Counter.TheVariants as counter
use Rattle.ec_base.specs.declared.ids.Age.{Age}
use Rattle.ec_base.specs.declared.ids.Hold.{Hold}
use Rattle.ec_base.specs.declared.ids.Hold.TheVariants.{Write}
use Rattle.ec_sessions.specs.Slots as slots
use Rattle.ec_sessions.specs.Limits.{ids_per_grant}
use Rattle.ec_sessions.specs.declared.slot.Slot.{Slot}
use Rattle.ec_sessions.specs.declared.slot.Greeting.{Greeting}
use Rattle.ec_sessions.specs.declared.slot.Greeting.TheVariants as greeted
use Rattle.ec_sessions.specs.Windows.{has}
use Rattle.ec_sessions.specs.OfTokens.Tokens.{Row, Tokens, Holder, row, held_by, holders, conflicts, is_conflict, token, granted, with_row, lowered, lowered_in, claimed_in, is_clear, fits_back, first_clash, claimed as with_claim}
use Rattle.ec_sessions.specs.declared.tokens.token.Token.{Token}
use Rattle.ec_sessions.specs.declared.recall.want.Want.{Want}
use Rattle.ec_sessions.specs.declared.recall.want.Action.TheVariants as action
use Rattle.ec_sessions.specs.OfRecall.Wants.{noted, is_of}
use Rattle.ec_base.specs.Holds.{stronger}
use Rattle.ec_sessions.specs.OfRecall.Due.{actions_from, wants_from, is_due, given_to, is_told, told_of, news, recall_of}
use Rattle.ec_volume.specs.declared.update.Update.{Update}
use Rattle.ec_wire.specs.declared.msg.Msg.{Msg}
use Rattle.ec_wire.specs.declared.msg.Msg.TheVariants as msg
use Rattle.ec_durable.specs.Durable.{step, slot, is_session, is_full, live, reserved}
use Rattle.ec_durable.specs.declared.state.Durable.{Durable}
use Rattle.ec_durable.specs.declared.record.Record.{Record}
use Rattle.ec_durable.specs.declared.record.Record.TheVariants as record_of
use Rattle.ec_durable.specs.declared.record.RecordFault.{RecordFault}
use Rattle.ec_protocol.specs.Server.{Serving, slot_of, commit, stay, tell, with_server, forget, forget_old, add_claimed, finish, tell_ended, tell_opened, open_new, greet, hello, spend, want, note, send_grant, back, claim, has_claimed, flush, may_write, epoch, in_session}
use Rattle.ec_protocol.specs.Server.{is_last_number, next_number, with_ids, record_ids, send_ids, ids_are_spent, grant_ids, resend_ids, room, taken}
use Rattle.ec_protocol.specs.declared.server.Server.{Server}
use Rattle.ec_admission.specs.Clerks.{IsOpenIn}
use Rattle.ec_server.specs.Clerks.{Each, HaveClerks, session_of, Records, Goes}
use Rattle.ec_server.specs.SlotLaws.{stays_open, ends_one, greeted_ends}

-- Lists.

pub each_filter : {X : Type 0} (P Q : X → Type 0) (p : X → Bool) (xs : List X) → ((x : X) → p x ≡ true → P x → Q x) → Each P xs → Each Q (filter p xs)
each_filter P Q p [] f h = tt
each_filter P Q p (x ∷ xs) f h = go (p x) refl (each_filter P Q p xs f h.1)
  where
    go : (b : Bool) → p x ≡ b → Each Q (filter p xs) → Each Q (cond b (x ∷ filter p xs) (filter p xs))
    go true e rest = (f x e h.0, rest)
    go false e rest = rest

pub each_moved : {X : Type 0} (P Q : X → Type 0) (xs : List X) → ((x : X) → P x → Q x) → Each P xs → Each Q xs
each_moved P Q [] f h = tt
each_moved P Q (x ∷ xs) f h = (f x h.0, each_moved P Q xs f h.1)

pub each_append : {X : Type 0} (P : X → Type 0) (xs ys : List X) → Each P xs → Each P ys → Each P (xs ++ ys)
each_append P [] ys h k = k
each_append P (x ∷ xs) ys h k = (h.0, each_append P xs ys h.1 k)

-- Tables of tokens.

pub each_put : {X : Type 0} (P : ℕ → Type 0) (k : ℕ) (v : X) (es : List (ℕ × X)) → P k → Each (λ e. P e.0) es → Each (λ e. P e.0) (put nat_cmp k v es)
each_put P k v [] p h = (p, tt)
each_put P k v (e ∷ es) p h =
    let rest : Each (λ e. P e.0) (put nat_cmp k v es) = each_put P k v es p h.1 in
    elim (nat_cmp k e.0) as (λ o. Each (λ e. P e.0) (by_order o ((k, v) ∷ e ∷ es) ((e.0, v) ∷ es) (e ∷ put nat_cmp k v es))) [ Less ↦ (p, h) | Equal ↦ (h.0, h.1) | Greater ↦ (h.0, rest) ]

each_without : {X : Type 0} (P Q : ℕ → Type 0) (s : ℕ) (es : List (ℕ × X)) → ((t : ℕ) → t ≢ s → P t → Q t) → Each (λ e. P e.0) es → Each (λ e. Q e.0) (without nat_cmp s es)
each_without P Q s es f h = each_filter (λ e. P e.0) (λ e. Q e.0) (λ e. not (eq_by_cmp nat_cmp s e.0)) es (λ e kept p. f e.0 (apart e.0 kept) p) h
  where
    apart : (t : ℕ) → not (eq_by_cmp nat_cmp s t) ≡ true → t ≢ s
    apart t e same = grind (arith, nat_tests, e, same, unsigned_ties s t)

each_row : (P : ℕ → Type 0) (s : ℕ) (r : Row) (ts : Tokens) → P s → Each (λ e. P e.0) ts → Each (λ e. P e.0) (with_row s r ts)
each_row P s r ts p h = go (length r == 0)
  where
    go : (b : Bool) → Each (λ e. P e.0) (cond b (without nat_cmp s ts) (put nat_cmp s r ts))
    go true = each_without P P s ts (λ t differ q. q) h
    go false = each_put P s r ts p h

each_ids : (P : ℕ → Type 0) (ss n : ℕ) (xs : List ℕ) (ts : Tokens) → P ss → Each (λ e. P e.0) ts → Each (λ e. P e.0) (with_ids ss n xs ts)
each_ids P ss n [] ts p h = h
each_ids P ss n (x ∷ xs) ts p h = go (is_clear ts ss x Write) (each_ids P ss n xs (granted ss x Write n ts) p (each_put P ss _ ts p h)) (each_ids P ss n xs ts p h)
  where
    go : (b : Bool) → Each (λ e. P e.0) (with_ids ss n xs (granted ss x Write n ts)) → Each (λ e. P e.0) (with_ids ss n xs ts)
        → Each (λ e. P e.0) (with_ids ss n xs (elim b as (λ z. Tokens) [ true ↦ granted ss x Write n ts | false ↦ ts ]))
    go true new old = new
    go false new old = old

each_holder : (P : ℕ → Type 0) (ts : Tokens) (x : ℕ) → Each (λ e. P e.0) ts → Each (λ h. P h.0) (holders ts x)
each_holder P [] x h = tt
each_holder P (r ∷ rs) x h = go (tables.at x r.1) (each_holder P rs x h.1)
  where
    go : (o : Option Token) → Each (λ h. P h.0) (holders rs x) → Each (λ h. P h.0) (held_by r.0 o (holders rs x))
    go None rest = rest
    go (Some t) rest = (h.0, rest)

-- Wants and actions.

each_noted : (P : ℕ → Type 0) (s x : ℕ) (h : Hold) (ws : List Want) → P s → Each (λ w. P w.session) ws → Each (λ w. P w.session) (noted s x h ws)
each_noted P s x h [] p k = (p, tt)
each_noted P s x h (w ∷ ws) p k = go (is_of s x w) (each_noted P s x h ws p k.1)
  where
    go : (b : Bool) → Each (λ w. P w.session) (noted s x h ws) → Each (λ w. P w.session) (cond b (record w { hold = stronger w.hold h; told = [] } ∷ ws) (w ∷ noted s x h ws))
    go true rest = k
    go false rest = (k.0, rest)

each_recall : (P : ℕ → Type 0) (w : Want) (hs : List Holder) → Each (λ h. P h.0) hs → Each (λ a. P (session_of a)) (map (recall_of w) hs)
each_recall P w [] h = tt
each_recall P w (g ∷ hs) h = (h.0, each_recall P w hs h.1)

pub each_action : (P : ℕ → Type 0) (ts given : Tokens) (ws : List Want) → Each (λ e. P e.0) ts → Each (λ w. P w.session) ws → Each (λ a. P (session_of a)) (actions_from ts given ws)
each_action P ts given [] h k = tt
each_action P ts given (w ∷ ws) h k = go (is_due ts given w) (each_action P ts (given_to w.session w.obj w.hold given) ws h k.1) (each_action P ts given ws h k.1)
  where
    recalled : Each (λ a. P (session_of a)) (map (recall_of w) (news ts w))
    recalled =
        each_recall P w (news ts w) (each_filter (λ h. P h.0) (λ h. P h.0) (λ h. not (is_told w.told h)) (conflicts ts w.session w.obj w.hold) (λ g e p. p)
        (each_filter (λ h. P h.0) (λ h. P h.0) (is_conflict w.session w.hold) (holders ts w.obj) (λ g e p. p) (each_holder P ts w.obj h)))

    go : (b : Bool) → Each (λ a. P (session_of a)) (actions_from ts (given_to w.session w.obj w.hold given) ws) → Each (λ a. P (session_of a)) (actions_from ts given ws)
        → Each (λ a. P (session_of a)) (cond b (action.Grant w.session w.obj w.hold ∷ []) (map (recall_of w) (news ts w)) ++ actions_from ts (cond b (given_to w.session w.obj w.hold given) given) ws)
    go true after before = (k.0, after)
    go false after before = each_append (λ a. P (session_of a)) (map (recall_of w) (news ts w)) _ recalled before

pub each_stay : (P : ℕ → Type 0) (ts given : Tokens) (ws : List Want) → Each (λ w. P w.session) ws → Each (λ w. P w.session) (wants_from ts given ws)
each_stay P ts given [] k = tt
each_stay P ts given (w ∷ ws) k = go (is_due ts given w) (each_stay P ts (given_to w.session w.obj w.hold given) ws k.1) (each_stay P ts given ws k.1)
  where
    kept : Want
    kept = record w { told = map told_of (conflicts ts w.session w.obj w.hold) }

    go : (b : Bool) → Each (λ w. P w.session) (wants_from ts (given_to w.session w.obj w.hold given) ws) → Each (λ w. P w.session) (wants_from ts given ws)
        → Each (λ w. P w.session) (cond b [] (kept ∷ []) ++ wants_from ts (cond b (given_to w.session w.obj w.hold given) given) ws)
    go true after before = after
    go false after before = (k.0, before)

-- Steps under way.

pub begins : (t : Serving) → t.rec ≡ None → HaveClerks t.server → Goes t.server.durable t
begins t none h = record { clerks = h; record_of = subst (λ (r : Option Record). Records r t.server.durable t.server.durable) (sym none) refl }

-- what is told, spent or noted beside tokens and wants changes nothing of this
pub goes_by : (d : Durable) (t u : Serving) → u.server.durable ≡ t.server.durable → u.server.tokens ≡ t.server.tokens → u.server.recalls ≡ t.server.recalls → u.rec ≡ t.rec → Goes d t → Goes d u
goes_by d t u p q r n g = record {
  clerks = record {
    tokens = subst (λ (ts : Tokens). Each (λ e. IsOpenIn u.server.durable.sessions e.0) ts) (sym q) (subst (λ (x : Durable). Each (λ e. IsOpenIn x.sessions e.0) t.server.tokens) (sym p) g.clerks.tokens);
    wants = subst (λ (ws : List Want). Each (λ w. IsOpenIn u.server.durable.sessions w.session) ws) (sym r) (subst (λ (x : Durable). Each (λ w. IsOpenIn x.sessions w.session) t.server.recalls) (sym p) g.clerks.wants);
  };
  record_of = subst (λ (o : Option Record). Records o d u.server.durable) (sym n) (subst (λ (x : Durable). Records t.rec d x) (sym p) g.record_of);
}

unfoldable pub goes_on : (r : Record) (f g : Serving → Serving) (t : Serving) → Result Durable RecordFault → Serving
goes_on r f g t res = elim res [ Ok d ↦ f (record t { server = record (t.server) { durable = d }; rec = Some r }) | Err fault ↦ g t ]

abbrev pub behind : Record → Durable → Serving → Serving
behind r e t = record t { server = record (t.server) { durable = e }; rec = Some r }

pub either : (P : Serving → Type 0) (r : Record) (f g : Serving → Serving) (t : Serving) → ((e : Durable) → step r t.server.durable ≡ Ok e → P (f (behind r e t))) → P (g t) → P (commit r f g t)
unfolding goes_on
either P r f g t after before = go (step r t.server.durable) refl
  where
    go : (res : Result Durable RecordFault) → step r t.server.durable ≡ res → P (goes_on r f g t res)
    go (Ok e) is = after e is
    go (Err fault) is = before

-- Ends of sessions.

forgot : (s : ℕ) (sv : Server) (e : Durable) → ((t : ℕ) → t ≢ s → IsOpenIn sv.durable.sessions t → IsOpenIn e.sessions t) → HaveClerks sv → HaveClerks (forget s (record sv { durable = e }))
forgot s sv e f h = record {
  tokens = each_without (IsOpenIn sv.durable.sessions) (IsOpenIn e.sessions) s sv.tokens f h.tokens;
  wants = each_filter (λ w. IsOpenIn sv.durable.sessions w.session) (λ w. IsOpenIn e.sessions w.session) (λ w. not (w.session == s)) sv.recalls (λ w kept p. f w.session (apart w.session kept) p) h.wants;
}
  where
    apart : (t : ℕ) → not (t == s) ≡ true → t ≢ s
    apart t e same = grind (arith, nat_tests, e, same)

moved_all : (sv : Server) (e : Durable) → ((t : ℕ) → IsOpenIn sv.durable.sessions t → IsOpenIn e.sessions t) → HaveClerks sv → HaveClerks (record sv { durable = e })
moved_all sv e f h = record {
  tokens = each_moved (λ r. IsOpenIn sv.durable.sessions r.0) (λ r. IsOpenIn e.sessions r.0) sv.tokens (λ r p. f r.0 p) h.tokens;
  wants = each_moved (λ w. IsOpenIn sv.durable.sessions w.session) (λ w. IsOpenIn e.sessions w.session) sv.recalls (λ w p. f w.session p) h.wants;
}

pub finish_goes : (c : ℕ) (sl : Slot) (t : Serving) → t.rec ≡ None → HaveClerks t.server → Goes t.server.durable (finish c sl t)
finish_goes c sl t none h =
    either (Goes t.server.durable) (record_of.End c sl.session) (λ u. tell_ended c sl (with_server (forget sl.session) u)) stay t
    (λ e is. record { clerks = rebuilt (forgot sl.session t.server e (λ s differ p. stays_open (record_of.End c sl.session) t.server.durable e s is (ends_one c sl.session t.server.durable e s is differ) p) h); record_of = is })
    (begins t none h)
  where
    rebuilt : {e : Durable} → HaveClerks (forget sl.session (record (t.server) { durable = e })) → HaveClerks (forget sl.session (record (t.server) { durable = e }))
    rebuilt h = record { tokens = h.tokens; wants = h.wants }

-- Openings.

opened_clerks : (c : ℕ) (age : Age) (ss : ℕ) (old : Option ℕ) (sv : Server) (e : Durable) → step (record_of.Open c age ss) sv.durable ≡ Ok e
    → ((s : ℕ) → is_session s (slot sv.durable c) ≡ true → old ≡ Some s) → HaveClerks sv → HaveClerks (add_claimed ss (forget_old old (record sv { durable = e })))
opened_clerks c age ss old sv e is ends h = go old ends
  where
    spared : (o : Option ℕ) → ((s : ℕ) → is_session s (slot sv.durable c) ≡ true → o ≡ Some s) → (s : ℕ) → o ≢ Some s → is_session s (slot sv.durable c) ≡ false
    spared o f s differ = by (is_session s (slot sv.durable c)) (f s)
      where
        by : (b : Bool) → (b ≡ true → o ≡ Some s) → b ≡ false
        by true g = absurd (differ (g refl))
        by false g = refl

    keeps : (o : Option ℕ) → ((s : ℕ) → is_session s (slot sv.durable c) ≡ true → o ≡ Some s) → (s : ℕ) → o ≢ Some s → IsOpenIn sv.durable.sessions s → IsOpenIn e.sessions s
    keeps o f s differ p = stays_open (record_of.Open c age ss) sv.durable e s is (spared o f s differ) p

    go : (o : Option ℕ) → ((s : ℕ) → is_session s (slot sv.durable c) ≡ true → o ≡ Some s) → HaveClerks (add_claimed ss (forget_old o (record sv { durable = e })))
    go None f = let k = moved_all sv e (λ s p. keeps None f s (λ q. absurd cc) p) h in record { tokens = k.tokens; wants = k.wants }
    go (Some o) f = let k = forgot o sv e (λ s differ p. keeps (Some o) f s (λ q. differ (sym (same q))) p) h in record { tokens = k.tokens; wants = k.wants }
      where
        same : {s : ℕ} → Some o ≡ Some s → o ≡ s
        same q = cc

pub open_goes : (c : ℕ) (age : Age) (old : Option ℕ) (t : Serving) → ((s : ℕ) → is_session s (slot_of c t) ≡ true → old ≡ Some s) → t.rec ≡ None → HaveClerks t.server → Goes t.server.durable (open_new c age old t)
open_goes c age old t ends none h = go (nat_le last_counter t.server.durable.next_session)
  where
    ss : ℕ
    ss = t.server.durable.next_session

    go : (b : Bool) → Goes t.server.durable (elim b as (λ z. Serving) [ true ↦ spend counter.Session t | false ↦ commit (record_of.Open c age t.server.durable.next_session) (tell_opened c age t.server.durable.next_session old) stay t ])
    go true = goes_by t.server.durable t (spend counter.Session t) refl refl refl refl (begins t none h)
    go false =
        either (Goes t.server.durable) (record_of.Open c age t.server.durable.next_session) (tell_opened c age t.server.durable.next_session old) stay t
        (λ e is. let k = opened_clerks c age t.server.durable.next_session old t.server e is ends h in told e is k)
        (begins t none h)
      where
        told : (e : Durable) → step (record_of.Open c age t.server.durable.next_session) t.server.durable ≡ Ok e → HaveClerks (add_claimed t.server.durable.next_session (forget_old old (record (t.server) { durable = e })))
            → Goes t.server.durable (tell_opened c age t.server.durable.next_session old (behind (record_of.Open c age t.server.durable.next_session) e t))
        told e is k = by old k
          where
            by : (o : Option ℕ) → HaveClerks (add_claimed t.server.durable.next_session (forget_old o (record (t.server) { durable = e }))) → Goes t.server.durable (tell_opened c age t.server.durable.next_session o (behind (record_of.Open c age t.server.durable.next_session) e t))
            by None k = record { clerks = record { tokens = k.tokens; wants = k.wants }; record_of = is }
            by (Some o) k = record { clerks = record { tokens = k.tokens; wants = k.wants }; record_of = is }

greet_goes : (c : ℕ) (age : Age) (g : Greeting) (t : Serving) → slots.greeting (slot_of c t) age ≡ g → t.rec ≡ None → HaveClerks t.server → Goes t.server.durable (greet c age g t)
greet_goes c age (greeted.Greater old) t is none h = open_goes c age old t (λ s p. greeted_ends (slot_of c t) age old s is p) none h
greet_goes c age (greeted.Same ss) t is none h = goes_by t.server.durable t _ refl refl refl refl (begins t none h)
greet_goes c age (greeted.Ended ss w) t is none h = goes_by t.server.durable t _ refl refl refl refl (begins t none h)
greet_goes c age (greeted.OldBoot greatest) t is none h = goes_by t.server.durable t _ refl refl refl refl (begins t none h)

hello_goes : (c from : ℕ) (age : Age) (t : Serving) → t.rec ≡ None → HaveClerks t.server → Goes t.server.durable (hello c from age t)
hello_goes c from age t none h = go (c == from)
  where
    go : (b : Bool) → Goes t.server.durable (elim b as (λ z. Serving) [ true ↦ greet c age (slots.greeting (slot_of c t) age) t | false ↦ t ])
    go true = greet_goes c age (slots.greeting (slot_of c t) age) t refl none h
    go false = begins t none h

-- Wants, tokens given back, batches, ids and claims of a session that is open.

note_goes : (ss x : ℕ) (h : Hold) (t : Serving) → IsOpenIn t.server.durable.sessions ss → t.rec ≡ None → HaveClerks t.server → Goes t.server.durable (note ss x h t)
note_goes ss x h t p none k =
    let g = begins t none k in
    record { clerks = record { tokens = k.tokens; wants = each_noted (IsOpenIn t.server.durable.sessions) ss x h t.server.recalls p k.wants }; record_of = g.record_of }

want_goes : (c ss x : ℕ) (h : Hold) (last : ℕ) (t : Serving) → IsOpenIn t.server.durable.sessions ss → t.rec ≡ None → HaveClerks t.server → Goes t.server.durable (want c ss x h last t)
want_goes c ss x h last t p none k = go (token t.server.tokens ss x)
  where
    by : (b : Bool) (n : Token) → Goes t.server.durable (elim b as (λ z. Serving) [ true ↦ send_grant c ss x n.hold n.number t | false ↦ note ss x h t ])
    by true n = goes_by t.server.durable t _ refl refl refl refl (begins t none k)
    by false n = note_goes ss x h t p none k

    go : (o : Option Token) → Goes t.server.durable (elim o as (λ z. Serving) [ None ↦ note ss x h t | Some n ↦ elim (nat_lt last n.number) as (λ z. Serving) [ true ↦ send_grant c ss x n.hold n.number t | false ↦ note ss x h t ] ])
    go None = note_goes ss x h t p none k
    go (Some n) = by (nat_lt last n.number) n

-- one session's tokens change
row_goes : (d : Durable) (t : Serving) (ts : Tokens) (f : Server → Server) → ((s : Server) → (f s).durable ≡ s.durable) → ((s : Server) → (f s).recalls ≡ s.recalls) → (f t.server).tokens ≡ ts
    → Each (λ e. IsOpenIn t.server.durable.sessions e.0) ts → Goes d t → Goes d (with_server f t)
row_goes d t ts f p q r h g = record {
  clerks = record {
    tokens = subst (λ (us : Tokens). Each (λ e. IsOpenIn (f t.server).durable.sessions e.0) us) (sym r) (subst (λ (x : Durable). Each (λ e. IsOpenIn x.sessions e.0) ts) (sym (p t.server)) h);
    wants = subst (λ (ws : List Want). Each (λ w. IsOpenIn (f t.server).durable.sessions w.session) ws) (sym (q t.server)) (subst (λ (x : Durable). Each (λ w. IsOpenIn x.sessions w.session) t.server.recalls) (sym (p t.server)) g.clerks.wants);
  };
  record_of = subst (λ (x : Durable). Records t.rec d x) (sym (p t.server)) g.record_of;
}

back_goes : (ss x n : ℕ) (h : Hold) (t : Serving) → IsOpenIn t.server.durable.sessions ss → t.rec ≡ None → HaveClerks t.server → Goes t.server.durable (back ss x n h t)
back_goes ss x n h t p none k = go (fits_back (token t.server.tokens ss x) n h)
  where
    go : (b : Bool) → Goes t.server.durable (elim b as (λ z. Serving) [ true ↦ with_server (λ s. record s { tokens = lowered ss x h n s.tokens }) t | false ↦ t ])
    go true =
        row_goes t.server.durable t (lowered ss x h n t.server.tokens) (λ s. record s { tokens = lowered ss x h n s.tokens }) (λ s. refl) (λ s. refl) refl
        (each_row (IsOpenIn t.server.durable.sessions) ss (lowered_in x h n (row t.server.tokens ss)) t.server.tokens p k.tokens) (begins t none k)
    go false = begins t none k

flush_goes : (c ss b : ℕ) (ops : List (ℕ × Update)) (sl : Slot) (t : Serving) → t.rec ≡ None → HaveClerks t.server → Goes t.server.durable (flush c ss b ops sl t)
flush_goes c ss b ops sl t none k = go (has sl.window b) (may_write t.server.tokens ss ops)
  where
    go : (x y : Bool) → Goes t.server.durable (elim x as (λ z. Serving) [
      | true ↦ tell c (msg.Kept ss (epoch t) b) t
      | false ↦ elim y as (λ z. Serving) [ true ↦ commit (record_of.Batch c ss b ops) (λ u. tell c (msg.Kept ss (epoch u) b) u) (finish c sl) t | false ↦ finish c sl t ]
    ])
    go true y = goes_by t.server.durable t _ refl refl refl refl (begins t none k)
    go false true =
        either (Goes t.server.durable) (record_of.Batch c ss b ops) (λ u. tell c (msg.Kept ss (epoch u) b) u) (finish c sl) t
        (λ e is. let m = moved_all t.server e (λ s p. stays_open (record_of.Batch c ss b ops) t.server.durable e s is tt p) k in record { clerks = record { tokens = m.tokens; wants = m.wants }; record_of = is })
        (finish_goes c sl t none k)
    go false false = finish_goes c sl t none k

next_goes : (d : Durable) (t : Serving) → Goes d t → Goes d (next_number t)
next_goes d t g = go (is_last_number t)
  where
    go : (b : Bool) → Goes d (elim b as (λ z. Serving) [ true ↦ spend counter.Number t | false ↦ with_server (λ s. record s { number = s.number + 1 }) t ])
    go true = goes_by d t (spend counter.Number t) refl refl refl refl g
    go false = goes_by d t (with_server (λ s. record s { number = s.number + 1 }) t) refl refl refl refl g

next_open : (ss : ℕ) (t : Serving) → IsOpenIn t.server.durable.sessions ss → IsOpenIn (next_number t).server.durable.sessions ss
next_open ss t p = go (is_last_number t)
  where
    go : (b : Bool) → IsOpenIn (elim b as (λ z. Serving) [ true ↦ spend counter.Number t | false ↦ with_server (λ s. record s { number = s.number + 1 }) t ]).server.durable.sessions ss
    go true = p
    go false = p

record_goes : (d : Durable) (ss first : ℕ) (t : Serving) → IsOpenIn t.server.durable.sessions ss → Goes d t → Goes d (record_ids ss first t)
record_goes d ss first t p g = go (next_number t) (next_open ss t p) (next_goes d t g)
  where
    go : (u : Serving) → IsOpenIn u.server.durable.sessions ss → Goes d u
        → Goes d (with_server (λ s. record s { tokens = with_ids ss s.number (slots.run first ids_per_grant) s.tokens; recorded = tables.put ss s.number s.recorded }) u)
    go u p g =
        row_goes d u (with_ids ss u.server.number (slots.run first ids_per_grant) u.server.tokens) (λ s. record s { tokens = with_ids ss s.number (slots.run first ids_per_grant) s.tokens; recorded = tables.put ss s.number s.recorded })
        (λ s. refl) (λ s. refl) refl (each_ids (IsOpenIn u.server.durable.sessions) ss u.server.number (slots.run first ids_per_grant) u.server.tokens p g.clerks.tokens) g

send_ids_goes : (d : Durable) (c ss got first : ℕ) (t : Serving) → Goes d t → Goes d (send_ids c ss got first t)
send_ids_goes d c ss got first t g = goes_by d t (send_ids c ss got first t) refl refl refl refl g

grant_ids_goes : (c ss got ask : ℕ) (t : Serving) → IsOpenIn t.server.durable.sessions ss → t.rec ≡ None → HaveClerks t.server → Goes t.server.durable (grant_ids c ss got ask t)
grant_ids_goes c ss got ask t p none k = go (is_full t.server.durable) (ids_are_spent got t)
  where
    go : (x y : Bool) → Goes t.server.durable (elim x as (λ z. Serving) [
      | true ↦ tell c (msg.NoRoom ss (epoch t) ask (live t.server.durable) (reserved t.server.durable)) t
      | false ↦ elim y as (λ z. Serving) [
        | true ↦ spend counter.Id t
        | false ↦ commit (record_of.Ids c ss got t.server.durable.next_id) (λ u. send_ids c ss got t.server.durable.next_id (record_ids ss t.server.durable.next_id u)) stay t
      ]
    ])
    go true y = goes_by t.server.durable t _ refl refl refl refl (begins t none k)
    go false true = goes_by t.server.durable t _ refl refl refl refl (begins t none k)
    go false false =
        either (Goes t.server.durable) (record_of.Ids c ss got t.server.durable.next_id) (λ u. send_ids c ss got t.server.durable.next_id (record_ids ss t.server.durable.next_id u)) stay t
        (λ e is.
        let stays : (s : ℕ) → IsOpenIn t.server.durable.sessions s → IsOpenIn e.sessions s = λ s q. stays_open (record_of.Ids c ss got t.server.durable.next_id) t.server.durable e s is tt q in
        let m = moved_all t.server e stays k in
        send_ids_goes t.server.durable c ss got t.server.durable.next_id _ (record_goes t.server.durable ss t.server.durable.next_id (behind (record_of.Ids c ss got t.server.durable.next_id) e t) (stays ss p) (record { clerks = record { tokens = m.tokens; wants = m.wants }; record_of = is })))
        (begins t none k)

room_goes : (c ss got ask : ℕ) (sl : Slot) (t : Serving) → IsOpenIn t.server.durable.sessions ss → t.rec ≡ None → HaveClerks t.server → Goes t.server.durable (room c ss got ask sl t)
room_goes c ss got ask sl t p none k = go (got == sl.grants) (got + 1 == sl.grants)
  where
    known : (b : Bool) (first : ℕ) → Goes t.server.durable (elim b as (λ z. Serving) [ true ↦ t | false ↦ record_ids ss first t ])
    known true first = begins t none k
    known false first = record_goes t.server.durable ss first t p (begins t none k)

    again : (o : Option ℕ) → Goes t.server.durable (resend_ids c ss got o t)
    again None = begins t none k
    again (Some first) = send_ids_goes t.server.durable c ss got first _ (known (is_some (tables.at ss t.server.recorded)) first)

    go : (x y : Bool) → Goes t.server.durable (elim x as (λ z. Serving) [ true ↦ grant_ids c ss got ask t | false ↦ elim y as (λ z. Serving) [ true ↦ resend_ids c ss got sl.last_first t | false ↦ t ] ])
    go true y = grant_ids_goes c ss got ask t p none k
    go false true = again sl.last_first
    go false false = begins t none k

claim_goes : (c ss : ℕ) (list : List (ℕ × Hold)) (sl : Slot) (t : Serving) → IsOpenIn t.server.durable.sessions ss → t.rec ≡ None → HaveClerks t.server → Goes t.server.durable (claim c ss list sl t)
claim_goes c ss list sl t p none k = go (has_claimed ss t.server) (is_none (first_clash t.server.tokens ss list))
  where
    go : (x y : Bool) → Goes t.server.durable (elim x as (λ z. Serving) [
      | true ↦ t
      | false ↦ elim y as (λ z. Serving) [ true ↦ with_server (λ s. record s { tokens = with_claim ss list s.tokens; claimed = ss ∷ s.claimed }) t | false ↦ finish c sl t ]
    ])
    go true y = begins t none k
    go false true =
        row_goes t.server.durable t (with_claim ss list t.server.tokens) (λ s. record s { tokens = with_claim ss list s.tokens; claimed = ss ∷ s.claimed }) (λ s. refl) (λ s. refl) refl
        (each_row (IsOpenIn t.server.durable.sessions) ss (claimed_in list (row t.server.tokens ss)) t.server.tokens p k.tokens) (begins t none k)
    go false false = finish_goes c sl t none k

-- Messages.

session_goes : (c ss e : ℕ) (b : Bool) (f : Slot → Serving → Serving) (t : Serving) → t.rec ≡ None → HaveClerks t.server
    → ((sl : Slot) → IsOpenIn t.server.durable.sessions ss → Goes t.server.durable (f sl t)) → Goes t.server.durable (in_session c ss e b f t)
session_goes c ss e b f t none k h = go (slot_of c t) refl
  where
    by : (sl : Slot) → slot_of c t ≡ Some sl → (x y z : Bool) → (sl.session == ss) ≡ x → sl.is_open ≡ y
        → Goes t.server.durable (elim x as (λ w. Serving) [
          | false ↦ t
          | true ↦ elim y as (λ w. Serving) [ false ↦ tell_ended c sl t | true ↦ elim z as (λ w. Serving) [ false ↦ tell c (msg.Restarted ss (epoch t)) t | true ↦ f sl t ] ]
        ])
    by sl at false y z p q = begins t none k
    by sl at true false z p q = goes_by t.server.durable t _ refl refl refl refl (begins t none k)
    by sl at true true false p q = goes_by t.server.durable t _ refl refl refl refl (begins t none k)
    by sl at true true true p q = h sl (c, ap (is_session ss) at ∙ ap (λ b. b && (sl.session == ss)) q ∙ p)

    go : (o : Option Slot) → slot_of c t ≡ o → Goes t.server.durable (elim o as (λ w. Serving) [
      | None ↦ t
      | Some sl ↦ elim (sl.session == ss) as (λ w. Serving) [
        | false ↦ t
        | true ↦ elim sl.is_open as (λ w. Serving) [
          | false ↦ tell_ended c sl t
          | true ↦ elim ((e == epoch t) && (b || has_claimed ss t.server)) as (λ w. Serving) [ false ↦ tell c (msg.Restarted ss (epoch t)) t | true ↦ f sl t ]
        ]
      ]
    ])
    go None at = begins t none k
    go (Some sl) at = by sl at (sl.session == ss) sl.is_open ((e == epoch t) && (b || has_claimed ss t.server)) refl refl

pub taken_goes : (c : ℕ) (m : Msg) (t : Serving) → t.rec ≡ None → HaveClerks t.server → Goes t.server.durable (taken c m t)
taken_goes c (msg.Hello from age) t none k = hello_goes c from age t none k
taken_goes c (msg.Want ss e x h last) t none k = session_goes c ss e false (λ sl. want c ss x h last) t none k (λ sl p. want_goes c ss x h last t p none k)
taken_goes c (msg.Back ss e x n h) t none k = session_goes c ss e false (λ sl. back ss x n h) t none k (λ sl p. back_goes ss x n h t p none k)
taken_goes c (msg.Flush ss e b ops) t none k = session_goes c ss e false (flush c ss b ops) t none k (λ sl p. flush_goes c ss b ops sl t none k)
taken_goes c (msg.Room ss e got ask) t none k = session_goes c ss e false (room c ss got ask) t none k (λ sl p. room_goes c ss got ask sl t p none k)
taken_goes c (msg.Claim ss e list) t none k = session_goes c ss e true (claim c ss list) t none k (λ sl p. claim_goes c ss list sl t p none k)
taken_goes c (msg.Bye ss e) t none k = session_goes c ss e true (finish c) t none k (λ sl p. finish_goes c sl t none k)
taken_goes c _ t none k = begins t none k
