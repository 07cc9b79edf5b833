-- Steps that went well, and lists that are walked.
use Rattle.std.proofs.Common.{◌≡◌, ◌<◌, ◌≤◌, ◌+◌, ◌-◌, arith, ◌∙◌, refl, sym, ap, ℕ, suc, zero, take, append_assoc, List, [], ◌∷◌, ◌++◌, length, drop, drop-cons, add-one, get_or, cond, Bool, true, false, Option, None, Some, OnOk, IfOk, Ok, Err, Result}
use Rattle.std.specs.Prelude.{T, ◌==◌, map, reverse, is_some, nat_lt, nat_le, ◌&&◌, not}
use Rattle.std.proofs.lemmas.Bool.{and_parts, lt-leb, le-leb, eq-eqb}
use Rattle.std.proofs.lemmas.List.{reverse-append, drop_all}
use Rattle.std.specs.List.{list_all, list_any}
use Rattle.ec_base.specs.Tables.{at}
use Rattle.ec_base.specs.declared.ids.Hold.{Hold}
use Rattle.ec_base.specs.declared.ids.Hold.TheVariants.{Free}
use Rattle.ec_wire.specs.declared.msg.Msg.TheVariants.{Want, Claim, Grant}
use Rattle.ec_base.specs.declared.ids.Age.{Age}
use Rattle.ec_volume.specs.Update.{fits, first_unfit, distinct}
use Rattle.ec_volume.specs.Volume.{Images}
use Rattle.ec_volume.specs.declared.update.Update.{Update}
use Rattle.ec_cache.specs.Cache as cached
use Rattle.ec_cache.specs.Numbers as numbers
use Rattle.ec_cache.specs.declared.state.CacheState.{CacheState}
use Rattle.ec_sessions.specs.Slots.{run}
use Rattle.ec_log.specs.Log as logs
use Rattle.ec_log.specs.declared.state.Asked.{Asked}
use Rattle.ec_log.specs.declared.state.Asked.TheVariants.{Object, Op}
use Rattle.ec_base.specs.Limits.{last_counter}
use Rattle.ec_sessions.specs.Limits.{last_grants}
use Rattle.ec_volume.specs.Image.{entries_of}
use Rattle.ec_volume.specs.Held.{is_held}
use Rattle.ec_volume.specs.declared.image.Image.{Image}
use Rattle.ec_volume.specs.declared.image.Image.TheVariants as image
use Rattle.ec_cache.specs.Held.{is_within}
use Rattle.ec_wire.specs.declared.msg.Msg.{Msg}
use Rattle.ec_wire.specs.Messages.{is_held_mode, is_sound_image, is_sound as is_sound_msg}
use Rattle.ec_plain.specs.declared.call.Call.{Call}
use Rattle.ec_plain.specs.declared.call.Outcome.{Outcome}
use Rattle.ec_history.specs.declared.entry.Answer.TheVariants as answer
use Rattle.ec_cache.specs.declared.state.Held.{Held}
use Rattle.ec_protocol.specs.declared.clerk.Out.TheVariants as out
use Rattle.ec_log.specs.declared.state.LogState.{LogState}
use Rattle.ec_log.specs.declared.state.Pick.{Pick}
use Rattle.ec_log.specs.declared.state.Pick.TheVariants as pick_of
use Rattle.ec_base.specs.declared.counter.Counter.TheVariants as counter
use Rattle.ec_protocol.specs.declared.clerk.Waiting.{Waiting}
use Rattle.ec_protocol.specs.declared.clerk.Wanted.{Wanted}
use Rattle.ec_protocol.specs.declared.clerk.Clerk.{Clerk}
use Rattle.ec_protocol.specs.declared.clerk.Out.{Out}
use Rattle.ec_protocol.specs.declared.clerk.Recalled.{Recalled}
use Rattle.ec_protocol.specs.Clerk as clerk
use Rattle.ec_doing.specs.declared.doing.Doing.{Doing}
use Rattle.ec_doing.specs.Seen.{clerk_with, doing_of, EndsWith, enter_if_later, serve, send_if_batch, send_back, send_numbers}

pub on_ok : {X E P Q : Type 0} (r : Result X E) → (P → Q) → OnOk r P → OnOk r Q
on_ok (Ok x) f p = f p
on_ok (Err e) f p = p

pub if_ok : {X E : Type 0} {P Q : X → Type 0} (r : Result X E) → ((x : X) → P x → Q x) → IfOk r P → IfOk r Q
if_ok (Ok x) f p = f x p
if_ok (Err e) f p = p

-- Steps by a test, and one behind another.

pub when_true : (b : Bool) (x y new : clerk.Doing) → b ≡ true → x ≡ new → elim b as (λ z. clerk.Doing) [ true ↦ x | false ↦ y ] ≡ new
when_true b x y new e h = ap (λ c. elim c as (λ z. clerk.Doing) [ true ↦ x | false ↦ y ]) e ∙ h

pub when_false : (b : Bool) (x y new : clerk.Doing) → b ≡ false → y ≡ new → elim b as (λ z. clerk.Doing) [ true ↦ x | false ↦ y ] ≡ new
when_false b x y new e h = ap (λ c. elim c as (λ z. clerk.Doing) [ true ↦ x | false ↦ y ]) e ∙ h

pub then_goes : (f : clerk.Doing → clerk.Doing) (d mid new : clerk.Doing) → d ≡ mid → f mid ≡ new → f d ≡ new
then_goes f d mid new e h = ap f e ∙ h

pub ends_with : (f : clerk.Doing → clerk.Doing) (k l : Clerk) (d : clerk.Doing) (e : clerk.Doing) (outs : List Out) → d ≡ clerk.doing k → f d ≡ e → EndsWith e l outs → EndsWith (f (clerk.doing k)) l outs
ends_with f k l d e outs is went ended = ap f (sym is) ∙ went ∙ ended

pub two_steps : (f g : clerk.Doing → clerk.Doing) (k l : Clerk) (d e x : clerk.Doing) (outs : List Out) → d ≡ clerk.doing k → f d ≡ e → g e ≡ x → EndsWith x l outs → EndsWith (g (f (clerk.doing k))) l outs
two_steps f g k l d e x outs is went then ended = ap (λ y. g (f y)) (sym is) ∙ ap g went ∙ then ∙ ended

pub settled_all : (d m n new : clerk.Doing) → serve d ≡ m → clerk.try_all m ≡ n → clerk.evict n ≡ new → clerk.settle d ≡ new
settled_all d m n new served tried h = ap (λ x. clerk.evict (clerk.try_all x)) served ∙ ap clerk.evict tried ∙ h

pub begun : (c : Call) (k l : Clerk) (d e x : clerk.Doing) (outs : List Out) → nat_le last_counter k.calls ≡ false → d ≡ clerk.doing k → clerk.with_clerk (clerk.add_call c) d ≡ e → clerk.settle e ≡ x → EndsWith x l outs → EndsWith (clerk.begin c k) l outs
begun c k l d e x outs below is added settled ended =
    let began = clerk.settle (clerk.doing (clerk.add_call c k)) in
    when_false (nat_le last_counter k.calls) (clerk.spend counter.CallNo (clerk.doing k)) began began below refl
    ∙ two_steps (clerk.with_clerk (clerk.add_call c)) clerk.settle k l d e x outs is added settled ended

pub calls_spent : (c : Call) (k : Clerk) → last_counter ≤ k.calls → (clerk.begin c k).spent ≡ Some counter.CallNo
calls_spent c k l = ap (λ b. (elim b as (λ z. clerk.Doing) [ true ↦ clerk.spend counter.CallNo (clerk.doing k) | false ↦ clerk.settle (clerk.doing (clerk.add_call c k)) ]).spent) (le-leb last_counter k.calls l)

pick_goes : (p : Pick) (d new : clerk.Doing) → ((b : ℕ) (ns : List ℕ) → p ≡ pick_of.Batch b ns → logs.batches_are_spent d.clerk.log ≡ false) → send_if_batch p (clerk.with_log (logs.after_pick p) d) ≡ new → clerk.send_picked p d ≡ new
pick_goes (pick_of.Batch b ns) d new room h =
    let sent = clerk.send_batch b (clerk.with_log (logs.after_pick (pick_of.Batch b ns)) d) in
    when_false (logs.batches_are_spent d.clerk.log) (clerk.spend counter.Batch d) sent new (room b ns refl) h
pick_goes pick_of.Settled d new room h = h
pick_goes (pick_of.Behind b) d new room h = h
pick_goes (pick_of.Window b) d new room h = h

pub flushed : (k : Clerk) (a : Asked) (p : Pick) (l : LogState) (new : clerk.Doing) → p ≡ logs.pick a k.log → l ≡ logs.after_pick p k.log → ((b : ℕ) (ns : List ℕ) → p ≡ pick_of.Batch b ns → logs.batches_are_spent k.log ≡ false) → send_if_batch p (clerk.doing (record k { log = l })) ≡ new → clerk.flush a k ≡ new
flushed k a p l new made left room h =
    ap (λ q. clerk.send_picked q (clerk.doing k)) (sym made) ∙ pick_goes p (clerk.doing k) new room (ap (λ m. send_if_batch p (clerk.doing (record k { log = m }))) (sym left) ∙ h)

-- Messages, by session.

pub in_its_session : (s e : ℕ) (f : clerk.Doing → clerk.Doing) (d new : clerk.Doing) → (clerk.is_session s d.clerk.session && (e == d.clerk.epoch)) ≡ true → f d ≡ new → clerk.in_session s e f d ≡ new
in_its_session s e f d new own h = when_true (clerk.is_session s d.clerk.session && (e == d.clerk.epoch)) (f d) d new own h

pub greets : (s : ℕ) (f : clerk.Doing → clerk.Doing) (d new : clerk.Doing) → is_some d.clerk.session ≡ false → clerk.hello d ≡ new → clerk.or_hello s f d ≡ new
greets s f d new none h = when_false (is_some d.clerk.session) (elim (clerk.is_session s d.clerk.session) as (λ z. clerk.Doing) [ true ↦ f d | false ↦ d ]) (clerk.hello d) new none h

pub goes_on : (s : ℕ) (f : clerk.Doing → clerk.Doing) (d new : clerk.Doing) → is_some d.clerk.session ≡ true → clerk.is_session s d.clerk.session ≡ true → f d ≡ new → clerk.or_hello s f d ≡ new
goes_on s f d new some own h = when_true (is_some d.clerk.session) (elim (clerk.is_session s d.clerk.session) as (λ z. clerk.Doing) [ true ↦ f d | false ↦ d ]) (clerk.hello d) new some (when_true (clerk.is_session s d.clerk.session) (f d) d new own h)

pub by_message : (m n : Msg) (d new : clerk.Doing) → m ≡ n → clerk.taken n d ≡ new → clerk.taken m d ≡ new
by_message m n d new is h = ap (λ x. clerk.taken x d) is ∙ h

pub ids_taken : (got n first : ℕ) (d new : clerk.Doing) → got ≡ d.clerk.got → got < last_grants → clerk.with_clerk (clerk.add_ids n first) d ≡ new → clerk.take_ids got n first d ≡ new
ids_taken got n first d new same room h =
    let added = clerk.with_clerk (clerk.add_ids n first) d in
    when_true (got == d.clerk.got) (elim (nat_le last_grants got) as (λ z. clerk.Doing) [ true ↦ clerk.spend counter.Id d | false ↦ added ]) d new (eq-eqb got d.clerk.got same) (when_false (nat_le last_grants got) (clerk.spend counter.Id d) added new (lt-leb last_grants got room) h)

image_within : (i : Image) → is_sound_image i ≡ true → is_within i ≡ true
image_within image.Gone e = refl
image_within (image.File m s w bs) e = (and_parts (is_held (image.File m s w bs)) (distinct (map (λ e. e.1) (entries_of (image.File m s w bs)))) e).0
image_within (image.Dir m s w es) e = (and_parts (is_held (image.Dir m s w es)) (distinct (map (λ e. e.1) (entries_of (image.Dir m s w es)))) e).0

pub grant_within : (s e x n : ℕ) (h : Hold) (i : Image) → is_sound_msg (Grant s e x n h i) ≡ true → is_within i ≡ true
grant_within s e x n h i r = image_within i (and_parts (is_held_mode h) (is_sound_image i) r).1

pub next_is : {X : Type 0} (xs : List X) (i : ℕ) (x : X) → i < length xs → x ≡ get_or xs i x → drop i xs ≡ x ∷ drop (i + 1) xs
next_is xs i x within is = drop-cons xs i x within ∙ (λ k. sym is k ∷ drop (sym (add-one i) k) xs)

-- one more of a list is walked
pub walk_next : {X D : Type 0} (f : List X → D → D) (g : X → D → D) → ((x : X) (xs : List X) (d : D) → f (x ∷ xs) d ≡ f xs (g x d)) → (xs : List X) (i : ℕ) (x : X) (d e all : D) → i < length xs → x ≡ get_or xs i x → g x d ≡ e → f (drop i xs) d ≡ all → f (drop (i + 1) xs) e ≡ all
walk_next f g law xs i x d e all within is went h =
    let left : drop i xs ≡ x ∷ drop (i + 1) xs = drop-cons xs i x within ∙ (λ k. sym is k ∷ drop (sym (add-one i) k) xs) in
    ap (f (drop (i + 1) xs)) (sym went) ∙ sym (law x (drop (i + 1) xs) d) ∙ sym (ap (λ l. f l d) left) ∙ h

pub holds_true : (b : Bool) → b ≡ true → T b
holds_true true e = tt
holds_true false e = absurd (cc e)

-- where an update fits each of these, none is unfit
pub none_unfit : (u : Update) (v : Images) (xs : List ℕ) → list_all (λ x. fits u x (v x)) xs ≡ true → first_unfit u v xs ≡ None
none_unfit u v [] h = refl
none_unfit u v (x ∷ xs) h =
    let p = and_parts (fits u x (v x)) (list_all (λ y. fits u y (v y)) xs) h in
    ap (λ b. cond b (first_unfit u v xs) (Some x)) p.0 ∙ none_unfit u v xs p.1

pub recall_taken : (ws : List Waiting) (d : Doing) (x n : ℕ) (to : Hold) (k : CacheState) (new : clerk.Doing) → nat_lt n (cached.last x d.cache) ≡ false → k ≡ clerk.mark_recall x to d.cache → clerk.keep_recall (record { obj = x; number = n; to = to }) (doing_of ws (record d { cache = k })) ≡ new → clerk.take_recall x n to (doing_of ws d) ≡ new
recall_taken ws d x n to k new past e h =
    let kept = λ (m : CacheState). clerk.keep_recall (record { obj = x; number = n; to = to }) (doing_of ws (record d { cache = m })) in
    let chosen : Bool → clerk.Doing = λ b. elim b [ true ↦ doing_of ws d | false ↦ kept (clerk.mark_recall x to d.cache) ] in
    ap chosen past ∙ ap kept (sym e) ∙ h

pub given_back : (ws : List Waiting) (d : Doing) (r : Recalled) (to : Hold) (k m : CacheState) (new : clerk.Doing) → to ≡ clerk.left_of r (at r.obj d.cache.held) → k ≡ clerk.lower_held r.obj to (at r.obj d.cache.held) d.cache → m ≡ cached.passed r.obj r.number k → send_back r.obj r.number to (doing_of ws (record d { cache = m })) ≡ new → clerk.give_back r (doing_of ws d) ≡ new
given_back ws d r to k m new left low past h =
    let sent = λ (t : Hold) (c : CacheState). send_back r.obj r.number t (doing_of ws (record d { cache = c })) in
    let lowered = λ (t : Hold). clerk.lower_held r.obj t (at r.obj d.cache.held) d.cache in
    ap (λ t. sent t (cached.passed r.obj r.number (lowered t))) (sym left) ∙ ap (λ c. sent to (cached.passed r.obj r.number c)) (sym low) ∙ ap (sent to) (sym past) ∙ h

pub want_sent : (ws : List Waiting) (d : Doing) (s last x : ℕ) (h : Hold) (w : Wanted) (v : List Wanted) (new : clerk.Doing) → s ≡ clerk.session (doing_of [] d) → w ≡ clerk.wanted x h (clerk_with [] d) → last ≡ w.last → v ≡ d.wanted.items ++ w ∷ [] → clerk.send (Want s d.epoch x h last) (clerk.with_clerk (λ k. record k { wanted = reverse v }) (doing_of ws d)) ≡ new → clerk.send_want x h (doing_of ws d) ≡ new
want_sent ws d s last x h w v new at_s at_w at_last at_v went =
    let sent = λ (t l : ℕ) (us : List Wanted). clerk.send (Want t d.epoch x h l) (clerk.with_clerk (λ k. record k { wanted = us }) (doing_of ws d)) in
    let w0 = clerk.wanted x h (clerk_with [] d) in
    let turned : reverse v ≡ w ∷ reverse d.wanted.items = ap reverse at_v ∙ reverse-append d.wanted.items (w ∷ []) in
    ap (λ t. sent t w0.last (w0 ∷ reverse d.wanted.items)) (sym at_s) ∙ ap (λ u. sent s u.last (u ∷ reverse d.wanted.items)) (sym at_w) ∙ ap (λ l. sent s l (w ∷ reverse d.wanted.items)) (sym at_last) ∙ ap (sent s last) (sym turned) ∙ went

pub picked : (ws : List Waiting) (d : Doing) (p : Pick) (new : clerk.Doing) → ((b : ℕ) (ns : List ℕ) → p ≡ pick_of.Batch b ns → logs.batches_are_spent d.ledger.log ≡ false) → send_if_batch p (clerk.with_log (logs.after_pick p) (doing_of ws d)) ≡ new → clerk.send_picked p (doing_of ws d) ≡ new
picked ws d (pick_of.Batch b ns) new room h =
    let chosen : Bool → clerk.Doing = λ s. elim s [ true ↦ clerk.spend counter.Batch (doing_of ws d) | false ↦ clerk.send_batch b (clerk.with_log (logs.after_pick (pick_of.Batch b ns)) (doing_of ws d)) ] in
    ap chosen (room b ns refl) ∙ h
picked ws d pick_of.Settled new room h = h
picked ws d (pick_of.Behind b) new room h = h
picked ws d (pick_of.Window b) new room h = h

pub asked : (ws : List Waiting) (d : Doing) (a : Asked) (p : Pick) (l : LogState) (new : clerk.Doing) → p ≡ logs.pick a d.ledger.log → l ≡ logs.after_pick p d.ledger.log → ((b : ℕ) (ns : List ℕ) → p ≡ pick_of.Batch b ns → logs.batches_are_spent d.ledger.log ≡ false) → send_if_batch p (clerk.with_log (λ m. l) (doing_of ws d)) ≡ new → clerk.ask_for a (doing_of ws d) ≡ new
asked ws d a p l new made left room h =
    ap (λ q. clerk.send_picked q (doing_of ws d)) (sym made) ∙ picked ws d p new room (ap (λ m. send_if_batch p (clerk.with_log (λ x. m) (doing_of ws d))) (sym left) ∙ h)

pub recall_ready : (ws : List Waiting) (d : Doing) (r : Recalled) (new : clerk.Doing) → clerk.is_ready r (clerk_with [] d) ≡ true → clerk.give_back r (doing_of ws d) ≡ new → clerk.try_recalls (r ∷ []) (doing_of ws d) ≡ new
recall_ready ws d r new e h =
    let chosen : Bool → clerk.Doing = λ b. elim b [ true ↦ clerk.give_back r (doing_of ws d) | false ↦ clerk.keep_recall r (clerk.ask_for (Object r.obj) (doing_of ws d)) ] in
    ap chosen e ∙ h

pub recall_kept : (ws : List Waiting) (d : Doing) (r : Recalled) (mid new : clerk.Doing) → clerk.is_ready r (clerk_with [] d) ≡ false → clerk.ask_for (Object r.obj) (doing_of ws d) ≡ mid → clerk.keep_recall r mid ≡ new → clerk.try_recalls (r ∷ []) (doing_of ws d) ≡ new
recall_kept ws d r mid new e a h =
    let chosen : Bool → clerk.Doing = λ b. elim b [ true ↦ clerk.give_back r (doing_of ws d) | false ↦ clerk.keep_recall r (clerk.ask_for (Object r.obj) (doing_of ws d)) ] in
    ap chosen e ∙ ap (clerk.keep_recall r) a ∙ h

pub push_kept : (ws : List Waiting) (d : Doing) (n : ℕ) (mid new : clerk.Doing) → clerk.is_settled (Op n) (clerk_with [] d) ≡ false → clerk.keep_push n (doing_of ws d) ≡ mid → clerk.ask_for (Op n) mid ≡ new → clerk.try_pushes (n ∷ []) (doing_of ws d) ≡ new
push_kept ws d n mid new e k h =
    let chosen : Bool → clerk.Doing = λ b. elim b [ true ↦ doing_of ws d | false ↦ clerk.ask_for (Op n) (clerk.keep_push n (doing_of ws d)) ] in
    ap chosen e ∙ ap (clerk.ask_for (Op n)) k ∙ h

pub both_true : (a b : Bool) → a ≡ true → b ≡ false → (a && not b) ≡ true
both_true a b p q = ap (λ x. x && not b) p ∙ ap not q

pub want_goes : (ws : List Waiting) (d : Doing) (x : ℕ) (h : Hold) (new : clerk.Doing) → clerk.may_want x h (clerk_with [] d) ≡ true → list_any (clerk.is_wanted (clerk.wanted x h (clerk_with [] d))) (clerk_with [] d).wanted ≡ false → clerk.send_want x h (doing_of ws d) ≡ new → clerk.want x h (doing_of ws d) ≡ new
want_goes ws d x h new m s went =
    let chosen : Bool → clerk.Doing = λ b. elim b [ true ↦ clerk.send_want x h (doing_of ws d) | false ↦ doing_of ws d ] in
    ap chosen (both_true (clerk.may_want x h (clerk_with [] d)) (list_any (clerk.is_wanted (clerk.wanted x h (clerk_with [] d))) (clerk_with [] d).wanted) m s) ∙ went

pub need_goes : (ws : List Waiting) (d : Doing) (x : ℕ) (h : Hold) (sent : List (ℕ × Hold)) (new : clerk.Doing) → clerk.may_want x h (clerk_with [] d) ≡ true → list_any (clerk.is_need x h) sent ≡ false → clerk.send_want x h (doing_of ws d) ≡ new → clerk.resend_want x h sent (doing_of ws d) ≡ new
need_goes ws d x h sent new m s went =
    let chosen : Bool → clerk.Doing = λ b. elim b [ true ↦ clerk.send_want x h (doing_of ws d) | false ↦ doing_of ws d ] in
    ap chosen (both_true (clerk.may_want x h (clerk_with [] d)) (list_any (clerk.is_need x h) sent) m s) ∙ went

pub room_asked : (ws : List Waiting) (d : Doing) (a : ℕ) (new : clerk.Doing) → a ≡ d.asks + 1 → nat_le last_counter d.asks ≡ false → clerk.send_room a (doing_of ws (record d { asking = Some a; asks = a })) ≡ new → clerk.ask_anew (doing_of ws d) ≡ new
room_asked ws d a new is below h =
    let sent = λ (n : ℕ). clerk.send_room n (doing_of ws (record d { asking = Some n; asks = n })) in
    let chosen : Bool → clerk.Doing = λ b. elim b [ true ↦ clerk.spend counter.Ask (doing_of ws d) | false ↦ sent (d.asks + 1) ] in
    ap chosen below ∙ ap sent (sym is) ∙ h

pub backs_numbers : (es : List (ℕ × Held)) (d : clerk.Doing) → clerk.send_backs es d ≡ send_numbers (numbers.numbers es) d
backs_numbers [] d = refl
backs_numbers (e ∷ es) d = backs_numbers es (send_back e.0 (e.1).number Free d)

pub evicted_back : (ws : List Waiting) (d : Doing) (k : CacheState) (pinned : List ℕ) (gone : List (ℕ × ℕ)) (new : clerk.Doing) → nat_le (length d.cache.held) d.cache.capacity ≡ false → pinned ≡ clerk.on_objects d.ledger.log.undurable → gone ≡ numbers.numbers (cached.evicted pinned d.cache) → k ≡ cached.evict pinned d.cache → send_numbers gone (doing_of ws (record d { cache = k })) ≡ new → clerk.evict (doing_of ws d) ≡ new
evicted_back ws d k pinned gone new over at_pinned at_gone at_k h =
    let chosen : Bool → clerk.Doing = λ b. elim b [ true ↦ doing_of ws d | false ↦ clerk.evict_unpinned (clerk.on_objects d.ledger.log.undurable) (doing_of ws d) ] in
    let left = λ (c : CacheState). doing_of ws (record d { cache = c }) in
    ap chosen over
    ∙ ap (λ ps. clerk.evict_unpinned ps (doing_of ws d)) (sym at_pinned)
    ∙ backs_numbers (cached.evicted pinned d.cache) (left (cached.evict pinned d.cache))
    ∙ ap (λ ns. send_numbers ns (left (cached.evict pinned d.cache))) (sym at_gone)
    ∙ ap (λ c. send_numbers gone (left c)) (sym at_k)
    ∙ h

pub issued : (ws : List Waiting) (d m : Doing) (w : Waiting) (o : Outcome) (u : Update) (op : ℕ) (t : clerk.Tried) → logs.ops_are_spent d.ledger.log ≡ false → clerk.with_clerk (clerk.with_update u) (doing_of ws d) ≡ doing_of ws m → op ≡ d.ledger.log.next → clerk.answer_with w (answer.Reply o.reply) (Some op) o.touched (doing_of ws m) ≡ t → clerk.issue w o u (doing_of ws d) ≡ t
issued ws d m w o u op t room e is h =
    let answered = λ (n : ℕ) (x : clerk.Doing). clerk.answer_with w (answer.Reply o.reply) (Some n) o.touched x in
    let chosen : Bool → clerk.Tried = λ b. elim b [ true ↦ clerk.Waits (clerk.spend counter.Op (doing_of ws d)) | false ↦ answered d.ledger.log.next (clerk.with_clerk (clerk.with_update u) (doing_of ws d)) ] in
    ap chosen room ∙ ap (answered d.ledger.log.next) e ∙ ap (λ n. answered n (doing_of ws m)) (sym is) ∙ h

pub above_leb : (m n a b : ℕ) → m ≡ a → n ≡ b → n < m → nat_le a b ≡ false
above_leb m n a b e f l = lt-leb a b (omega arith)

pub settled : (ws : List Waiting) (d : Doing) (w : Waiting) (o : Outcome) (a : Asked) (t : clerk.Tried) → clerk.is_owing w.begun (logs.first a d.ledger.log) ≡ false → clerk.await w o None (doing_of ws d) ≡ t → clerk.await w o (Some a) (doing_of ws d) ≡ t
settled ws d w o a t owes h =
    let chosen : Bool → clerk.Tried = λ b. elim b [ true ↦ clerk.Waits (clerk.ask_for a (doing_of ws d)) | false ↦ clerk.await w o None (doing_of ws d) ] in
    ap chosen owes ∙ h

pub old_boot_told : (ws : List Waiting) (d : Doing) (a g : Age) (new : clerk.Doing) → clerk.same_age a d.age ≡ true → clerk.emit (out.OldBoot g) (doing_of ws d) ≡ new → clerk.take_old_boot a g (doing_of ws d) ≡ new
old_boot_told ws d a g new same h =
    let chosen : Bool → clerk.Doing = λ b. elim b [ true ↦ clerk.emit (out.OldBoot g) (doing_of ws d) | false ↦ doing_of ws d ] in
    ap chosen same ∙ h

pub opened : (ws : List Waiting) (d : Doing) (a : Age) (s e : ℕ) (new : clerk.Doing) → is_some d.session ≡ false → clerk.same_age a d.age ≡ true → clerk.send (Claim s e []) (doing_of ws (record d { session = Some s; epoch = e })) ≡ new → clerk.take_opened a s e (doing_of ws d) ≡ new
opened ws d a s e new none same h =
    let chosen : Bool → clerk.Doing = λ b. elim b [ true ↦ clerk.send (Claim s e []) (doing_of ws (record d { session = Some s; epoch = e })) | false ↦ doing_of ws d ] in
    ap (λ b. chosen (not b && clerk.same_age a d.age)) none ∙ ap chosen same ∙ h

-- Rounds.

pub take_more : {X : Type 0} (xs : List X) (i : ℕ) (x : X) → i < length xs → x ≡ get_or xs i x → take (suc i) xs ≡ take i xs ++ x ∷ []
take_more [] i x l is = absurd (omega arith)
take_more (y ∷ ys) zero x l is = ap (λ z. z ∷ []) (sym is)
take_more (y ∷ ys) (suc i) x l is = ap (λ zs. y ∷ zs) (take_more ys i x (omega arith) is)

pub part_is : {X : Type 0} (xs : List X) (i : ℕ) (x : X) → i < length xs → x ≡ get_or xs i x → take i xs ++ x ∷ [] ≡ take (i + 1) xs
part_is xs i x within is = sym (take_more xs i x within is) ∙ (λ k. take (sym (add-one i) k) xs)

pub each_waits : (ws before calls : List Waiting) (i : ℕ) (w : Waiting) (d e : Doing) (all : clerk.Tried) → i < length calls → w ≡ get_or calls i w → clerk.try w (doing_of ws d) ≡ clerk.Waits (doing_of ws e) → all ≡ clerk.try_each (before ++ take i calls) (drop i calls) (doing_of ws d) → all ≡ clerk.try_each (before ++ take (i + 1) calls) (drop (i + 1) calls) (doing_of ws e)
each_waits ws before calls i w d e all within is went h =
    let b = before ++ take i calls in
    let r = drop (i + 1) calls in
    let chosen : clerk.Tried → clerk.Tried = λ t. elim t [ clerk.Waits x ↦ clerk.try_each (b ++ w ∷ []) r x | clerk.Answered x ↦ clerk.Answered (clerk.with_clerk (λ k. record k { waiting = b ++ r }) x) ] in
    let more : b ++ w ∷ [] ≡ before ++ take (i + 1) calls = append_assoc before (take i calls) (w ∷ []) ∙ ap (λ x. before ++ x) (part_is calls i w within is) in
    h ∙ ap (λ l. clerk.try_each b l (doing_of ws d)) (next_is calls i w within is) ∙ ap chosen went ∙ ap (λ x. clerk.try_each x r (doing_of ws e)) more

pub each_answered : (ws before calls : List Waiting) (i : ℕ) (w : Waiting) (d e : Doing) (all : clerk.Tried) → i < length calls → w ≡ get_or calls i w → clerk.try w (doing_of ws d) ≡ clerk.Answered (doing_of ws e) → all ≡ clerk.try_each (before ++ take i calls) (drop i calls) (doing_of ws d) → all ≡ clerk.Answered (doing_of (before ++ take i calls ++ drop (i + 1) calls) e)
each_answered ws before calls i w d e all within is went h =
    let b = before ++ take i calls in
    let r = drop (i + 1) calls in
    let chosen : clerk.Tried → clerk.Tried = λ t. elim t [ clerk.Waits x ↦ clerk.try_each (b ++ w ∷ []) r x | clerk.Answered x ↦ clerk.Answered (clerk.with_clerk (λ k. record k { waiting = b ++ r }) x) ] in
    h ∙ ap (λ l. clerk.try_each b l (doing_of ws d)) (next_is calls i w within is) ∙ ap chosen went

pub all_wait : (ws before calls : List Waiting) (i : ℕ) (d : Doing) (all : clerk.Tried) → length calls ≤ i → all ≡ clerk.try_each (before ++ take i calls) (drop i calls) (doing_of ws d) → all ≡ clerk.Waits (doing_of ws d)
all_wait ws before calls i d all past h = h ∙ ap (λ l. clerk.try_each (before ++ take i calls) l (doing_of ws d)) (drop_all i calls past)

pub round_on : (n : ℕ) (d e : clerk.Doing) (all : clerk.Doing) → clerk.try_each [] d.clerk.waiting d ≡ clerk.Answered e → all ≡ clerk.try_rounds (suc n) d → all ≡ clerk.try_rounds n e
round_on n d e all went h =
    let chosen : clerk.Tried → clerk.Doing = λ t. elim t [ clerk.Waits x ↦ x | clerk.Answered x ↦ clerk.try_rounds n x ] in
    h ∙ ap chosen went

pub round_off : (n : ℕ) (d e : clerk.Doing) (all : clerk.Doing) → clerk.try_each [] d.clerk.waiting d ≡ clerk.Waits e → all ≡ clerk.try_rounds (suc n) d → all ≡ e
round_off n d e all went h =
    let chosen : clerk.Tried → clerk.Doing = λ t. elim t [ clerk.Waits x ↦ x | clerk.Answered x ↦ clerk.try_rounds n x ] in
    h ∙ ap chosen went

pub need_more : (ws : List Waiting) (needs : List (ℕ × Hold)) (i : ℕ) (p : ℕ × Hold) (sent : List (ℕ × Hold)) (d e : Doing) (all : clerk.Doing) → i < length needs → p ≡ get_or needs i p → sent ≡ take i needs → clerk.resend_want p.0 p.1 (reverse sent) (doing_of ws d) ≡ doing_of ws e → all ≡ clerk.resend_needs (reverse (take i needs)) (drop i needs) (doing_of ws d) → all ≡ clerk.resend_needs (reverse (take (i + 1) needs)) (drop (i + 1) needs) (doing_of ws e)
need_more ws needs i p sent d e all within is at_sent went h =
    let r = drop (i + 1) needs in
    let turned : p ∷ reverse (take i needs) ≡ reverse (take (i + 1) needs) = sym (reverse-append (take i needs) (p ∷ [])) ∙ ap reverse (part_is needs i p within is) in
    h
    ∙ ap (λ l. clerk.resend_needs (reverse (take i needs)) l (doing_of ws d)) (next_is needs i p within is)
    ∙ ap (λ s. clerk.resend_needs (p ∷ reverse (take i needs)) r (clerk.resend_want p.0 p.1 (reverse s) (doing_of ws d))) (sym at_sent)
    ∙ ap (clerk.resend_needs (p ∷ reverse (take i needs)) r) went
    ∙ ap (λ s. clerk.resend_needs s r (doing_of ws e)) turned

pub same_get : {X : Type 0} (xs : List X) (i : ℕ) (d e : X) → i < length xs → get_or xs i d ≡ get_or xs i e
same_get [] i d e l = absurd (omega arith)
same_get (x ∷ xs) zero d e l = refl
same_get (x ∷ xs) (suc i) d e l = same_get xs i d e (omega arith)

abbrev pub added : List Waiting → Doing → List ℕ → CacheState → clerk.Doing
added ws d us c = clerk.with_clerk (λ k. record k { got = d.got + 1; asking = None; ids = us; cache = c }) (doing_of ws d)

pub ids_added : (ws : List Waiting) (d : Doing) (n first : ℕ) (r v : List ℕ) (k : CacheState) → r ≡ run first 16 → v ≡ d.ids.items ++ r → k ≡ clerk.take_each n r d.cache → (λ (us : List ℕ) (c : CacheState). added ws d us c) (d.ids.items ++ run first 16) (clerk.take_each n (run first 16) d.cache) ≡ added ws d v k
ids_added ws d n first r v k at_r at_v at_k =
    ap (λ x. added ws d (d.ids.items ++ x) (clerk.take_each n x d.cache)) (sym at_r) ∙ ap (λ x. added ws d x (clerk.take_each n r d.cache)) (sym at_v) ∙ ap (added ws d v) (sym at_k)

pub one_refused : (ws : List Waiting) (d : Doing) (live reserved : ℕ) (w : Waiting) (xs : List ℕ) (new : clerk.Doing) → clerk.idless (clerk.verdict w.call (clerk_with [] d)) ≡ Some xs → clerk.refuse_make live reserved w.no xs (doing_of ws d) ≡ new → clerk.refuse_makes live reserved (w ∷ []) (doing_of ws d) ≡ new
one_refused ws d live reserved w xs new e h =
    let chosen : Option (List ℕ) → clerk.Doing = λ o. elim o [ Some ys ↦ clerk.refuse_make live reserved w.no ys (doing_of ws d) | None ↦ clerk.keep_call w (doing_of ws d) ] in
    ap chosen e ∙ h

pub entered : (ws : List Waiting) (d : Doing) (e : ℕ) (k : CacheState) (new : clerk.Doing) → nat_lt d.epoch e ≡ true → k ≡ cached.new_epoch d.cache → clerk.with_clerk (λ c. record c { epoch = e; cache = k; recalls = []; wanted = [] }) (doing_of ws d) ≡ new → enter_if_later e (doing_of ws d) ≡ new
entered ws d e k new later made h =
    let chosen : Bool → clerk.Doing = λ b. elim b [ true ↦ clerk.with_clerk (clerk.enter_epoch e) (doing_of ws d) | false ↦ doing_of ws d ] in
    let begun = λ (m : CacheState). clerk.with_clerk (λ c. record c { epoch = e; cache = m; recalls = []; wanted = [] }) (doing_of ws d) in
    ap chosen later ∙ ap begun (sym made) ∙ h

pub not_entered : (ws : List Waiting) (d : Doing) (e : ℕ) (new : clerk.Doing) → nat_lt d.epoch e ≡ false → doing_of ws d ≡ new → enter_if_later e (doing_of ws d) ≡ new
not_entered ws d e new early h =
    let chosen : Bool → clerk.Doing = λ b. elim b [ true ↦ clerk.with_clerk (clerk.enter_epoch e) (doing_of ws d) | false ↦ doing_of ws d ] in
    ap chosen early ∙ h

pub restarted : (ws : List Waiting) (d m n : Doing) (e : ℕ) (new : clerk.Doing) → nat_lt e d.epoch ≡ false → enter_if_later e (doing_of ws d) ≡ doing_of ws m → clerk.claim (doing_of ws m) ≡ doing_of ws n → clerk.send_outstanding (doing_of ws n) ≡ new → clerk.take_restarted e (doing_of ws d) ≡ new
restarted ws d m n e new now went claimed h =
    let chosen : Bool → clerk.Doing = λ b. elim b [ true ↦ doing_of ws d | false ↦ clerk.send_outstanding (clerk.claim (enter_if_later e (doing_of ws d))) ] in
    ap chosen now ∙ ap (λ x. clerk.send_outstanding (clerk.claim x)) went ∙ ap clerk.send_outstanding claimed ∙ h
