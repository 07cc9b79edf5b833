-- A phase stays where a token that the line's clerk had too much reaches the server.
use Rattle.std.proofs.Common.{◌≡◌, refl, sym, ap, subst, ◌∙◌, arith, ◌≤◌, ◌<◌, ◌+◌, ℕ, T, Bool, true, false, ◌==◌, ◌&&◌, ◌||◌, cond, List, [], ◌∷◌, ◌++◌, length, Option, Some, None, append-nil}
use Rattle.std.proofs.lemmas.Bool.{eqb-true}
use Rattle.ec_base.specs.declared.ids.Hold.{Hold}
use Rattle.ec_base.specs.declared.ids.Hold.TheVariants.{Free, Write}
use Rattle.ec_volume.specs.Update.{member}
use Rattle.ec_history.specs.History.{Each}
use Rattle.ec_sessions.specs.Limits.{ids_per_grant}
use Rattle.ec_sessions.specs.Slots.{run}
use Rattle.ec_sessions.specs.declared.slot.Slot.{Slot}
use Rattle.ec_sessions.specs.OfTokens.Tokens.{Holder, token}
use Rattle.ec_sessions.specs.declared.tokens.token.Token.{Token}
use Rattle.ec_sessions.specs.OfRecall.Due.{actions, wants_after}
use Rattle.ec_wire.specs.declared.msg.Msg.{Msg}
use Rattle.ec_wire.specs.declared.msg.Msg.TheVariants as msg
use Rattle.ec_cache.specs.Cache.{last}
use Rattle.ec_protocol.specs.Server.{serving, serve, take}
use Rattle.ec_protocol.specs.declared.clerk.Clerk.{Clerk}
use Rattle.ec_protocol.specs.declared.server.Server.{Server}
use Rattle.ec_quiet.specs.Facts.{IsIdleBut}
use Rattle.ec_quiet.specs.Measure.{measure, noted_in}
use Rattle.ec_quiet.specs.Phases.{Phase, Greets, Opens, Claims, Wants, Recalls, Flushes, Keeps, Grants, Asks, Gives, Refuses, Saves, Saved, Ends}
use Rattle.ec_quiet.specs.Phases.{InPhase, Facts, IsWorking, IsWanting, IsAsking, IsSaving, IsRecalled, IsNoted, HasEnded, IsGivenBack, NoneNoted, backs, is_back, is_back_message, messages, excepted, is_busy}
use Rattle.ec_quiet.specs.Scenes.{Mail, Scene, delivered}
use Rattle.ec_quiet.specs.Works.{Work}
use Rattle.ec_machine_laws.proofs.Wanting.{no-want, none-due}
use Rattle.ec_quiet.specs.OfDeliveries.Orderly.{IsLike}
use Rattle.ec_quiet.proofs.OfDeliveries.Claimed.{working-at, behind}
use Rattle.ec_quiet.proofs.OfDeliveries.Idling.{idle-stays, in-stays}
use Rattle.ec_quiet.proofs.OfDeliveries.Returned.{first-other}
use Rattle.ec_quiet.proofs.OfDeliveries.Wanted.{other-session}
use Rattle.ec_quiet.specs.OfDeliveries.Coming.{IsNext}
use Rattle.ec_quiet.proofs.OfDeliveries.Frames.{nothing-due, want-stays}
use Rattle.ec_quiet.proofs.OfDeliveries.Left.{left-there, left-conflicts, left-later, left-orderly, left-taken, given-number, left_server, left_scene, backs-are, main-same, first-given, working-left, left-price}
use Rattle.ec_base.proofs.Bools.{first-of}

-- one of a list of objects
pub each-member : (P : ℕ → Type 0) (xs : List ℕ) → Each P xs → (x : ℕ) → T (member x xs) → P x
each-member P [] e x m = absurd m
each-member P (y ∷ xs) e x m = go (x == y) refl m (each-member P xs e.1 x)
  where
    go : (b : Bool) → (x == y) ≡ b → T (b || member x xs) → (T (member x xs) → P x) → P x
    go true q m more = subst P (sym (eqb-true x y q)) e.0
    go false q m more = more m

only-one : (x y : ℕ) → T (member x (y ∷ [])) → x ≡ y
only-one x y m = go (x == y) refl m
  where
    go : (b : Bool) → (x == y) ≡ b → T (b || false) → x ≡ y
    go true q m = eqb-true x y q
    go false q m = absurd m

-- the same recorded token has one number
same-number : (o : Option Token) (t u : Token) → o ≡ Some t → o ≡ Some u → t.number ≡ u.number
same-number o t u e f =
    let both : ◌≡◌ {A = Option Token} (Some t) (Some u) = sym e ∙ f in
    let same : t ≡ u = cc in
    ap (λ z. z.number) same

module _ (j : Work) (sc : Scene) (x n : ℕ) (rest : Mail) (mail : sc.mail ≡ (j.clerk, msg.Back j.session sc.server.durable.epoch x n Free) ∷ rest) where
  abbrev now : Server
  now = left_server j sc x n rest mail

  abbrev behind-scene : Scene
  behind-scene = left_scene j sc x n rest mail

  abbrev gone-message : ℕ × Msg
  gone-message = (j.clerk, msg.Back j.session sc.server.durable.epoch x n Free)

  -- Facts.

  wanting-left : (xs : List ℕ) (y : ℕ) (h : Hold) (l : ℕ) → IsWanting xs j sc y h l → IsWanting xs j behind-scene y h l
  wanting-left xs y h l a = record {
    slot = a.slot;
    clerk = a.clerk;
    working = working-left j sc x n rest mail xs a.slot a.clerk a.working;
    task = a.task;
    asking = a.asking;
    batches = a.batches;
    window = a.window;
    grants = a.grants;
    aged = a.aged;
    touched = a.touched;
    number = a.number;
    below = a.below;
    earlier = a.earlier;
    wants = a.wants;
    answered = a.answered;
  }

  asking-left : (xs : List ℕ) (again : Bool) (ask : ℕ) → IsAsking xs j sc again ask → IsAsking xs j behind-scene again ask
  asking-left xs again ask a = record {
    slot = a.slot;
    clerk = a.clerk;
    working = working-left j sc x n rest mail xs a.slot a.clerk a.working;
    task = a.task;
    asking = a.asking;
    ids = a.ids;
    makes = a.makes;
    batches = a.batches;
    window = a.window;
    answered = a.answered;
    aged = a.aged;
    lacks = a.lacks;
  }

  saving-left : (m b : ℕ) (more : Bool) → IsSaving m j sc b more → IsSaving m j behind-scene b more
  saving-left m b more a = record {
    slot = a.slot;
    clerk = a.clerk;
    working = working-left j sc x n rest mail [] a.slot a.clerk a.working;
    task = a.task;
    asking = a.asking;
    sending = a.sending;
    window = a.window;
    grants = a.grants;
    answered = a.answered;
    aged = a.aged;
    last = a.last;
  }

  ended-left : HasEnded j sc → HasEnded j behind-scene
  ended-left a = record {
    slot = a.slot;
    clerk = a.clerk;
    working = working-left j sc x n rest mail [] a.slot a.clerk a.working;
    done = a.done;
    asking = a.asking;
    batches = a.batches;
    window = a.window;
    grants = a.grants;
    answered = a.answered;
  }

  noted-left : (y : ℕ) (h : Hold) (cs : List Holder) → IsNoted j sc y h cs → IsNoted j behind-scene y h cs
  noted-left y h cs a = record {
    last = a.last;
    wanting = wanting-left [] y h a.last a.wanting;
    recalls = a.recalls;
    conflicts = left-conflicts j.session x n sc.server.tokens y h ∙ a.conflicts;
    some = a.some;
  }

  -- another clerk's session is as it was
  like-other : (c s : ℕ) → (s == j.session) ≡ false → IsLike sc.server now c s
  like-other c s apart = record { slot = refl; epoch = refl; claimed = λ e. e; number = omega arith; tokens = λ y. left-there j.session x n sc.server.tokens s y (ap (λ b. b && (y == x)) apart) }

  recalled-left : (m y : ℕ) (h : Hold) (r : Holder) (b : ℕ) (more : Bool) → (r.0 == j.session) ≡ false → IsRecalled m sc y h r b more → IsRecalled m behind-scene y h r b more
  recalled-left m y h r b more apart a = record {
    slot = a.slot;
    clerk = a.clerk;
    there = a.there;
    inside = in-stays sc.server now _ a.slot a.clerk (like-other _ (a.slot).session (ap (λ z. z == j.session) a.session ∙ apart)) a.inside;
    session = a.session;
    waiting = a.waiting;
    pushes = a.pushes;
    asking = a.asking;
    recalls = a.recalls;
    limits = a.limits;
    sending = a.sending;
    window = a.window;
    grants = a.grants;
    answered = a.answered;
    same = λ z m. (like-other j.clerk r.0 apart).tokens z ∙ a.same z m;
    writes = a.writes;
    last = a.last;
  }

  -- a token that the clerk doesn't know yet
  kept-token : (y : ℕ) (t : Token) → token sc.server.tokens j.session y ≡ Some t → (y ≡ x → n < t.number) → token now.tokens j.session y ≡ Some t
  kept-token y t e later = go (y == x) refl
    where
      off : (b : Bool) → (b && false) ≡ false
      off true = refl
      off false = refl

      go : (b : Bool) → (y == x) ≡ b → token now.tokens j.session y ≡ Some t
      go true q =
          let same : y ≡ x = eqb-true y x q in
          subst (λ z. token now.tokens j.session z ≡ Some t) (sym same) (left-later j.session x n sc.server.tokens t (subst (λ z. token sc.server.tokens j.session z ≡ Some t) same e) (later same))
      go false q = left-there j.session x n sc.server.tokens j.session y (ap (λ b. (j.session == j.session) && b) q ∙ off (j.session == j.session)) ∙ e

  -- Nothing is due.

  calm-none : NoneNoted sc → serve (serving now) ≡ serving now
  calm-none e = no-want (serving now) e

  calm-noted : (y : ℕ) (h : Hold) (cs : List Holder) → IsNoted j sc y h cs → serve (serving now) ≡ serving now
  calm-noted y h cs a =
      let same = left-conflicts j.session x n sc.server.tokens y h ∙ a.conflicts in
      none-due (serving now) (ap (actions now.tokens) a.recalls ∙ nothing-due j y h cs now.tokens same a.some) (ap (wants_after now.tokens) a.recalls ∙ want-stays j y h cs now.tokens same a.some ∙ sym a.recalls)

  -- The phase.

  abbrev Later : List ℕ → Clerk → Type 0
  Later xs k = (t : Token) → T (member x xs) → token sc.server.tokens j.session x ≡ Some t → last x k.cache < t.number

  abbrev IsCome : Phase → Type 0
  IsCome p = IsNext j sc p (behind sc rest (take j.clerk gone-message.1 sc.server)) p

  module _ (p : Phase) (ip : InPhase j sc p) (xs : List ℕ) (sl : Slot) (k : Clerk) (a : IsWorking xs j sc sl k) where
    left-phase : messages j behind-scene p ≡ messages j sc p → ((c : ℕ) → excepted behind-scene p c ≡ excepted sc p c) → ((c : ℕ) → is_busy behind-scene p c ≡ is_busy sc p c) → Facts j behind-scene p → InPhase j behind-scene p
    left-phase same-messages same-excepted same-busy facts = record {
      clerk = ip.clerk;
      number = ip.number;
      main_is = main-same j sc x n rest mail ∙ ip.main_is ∙ sym same-messages;
      orderly = left-orderly sc.server sc.clerks j.session x n ip.orderly;
      others = λ c z away busy there.
          let i = ip.others c z away (sym (same-busy c) ∙ busy) there in (
            i.0,
            subst (λ ys. IsIdleBut ys now c i.0 z) (sym (same-excepted c))
                (idle-stays (excepted sc p c) sc.server now c i.0 z (like-other c (i.0).session (other-session j sc p ip sl a.inside.there a.session c i.0 away (i.1).inside.there)) i.1),
          );
      facts = facts;
    }

    left-less : Later xs k → measure j behind-scene p + 32 ≤ measure j sc p
    left-less later = omega (arith, left-price j sc x n rest mail xs sl k a (noted_in p) ip.orderly later, ap length (backs-are j sc x n rest mail))

    still : Later xs k → messages j behind-scene p ≡ messages j sc p → ((c : ℕ) → excepted behind-scene p c ≡ excepted sc p c) → ((c : ℕ) → is_busy behind-scene p c ≡ is_busy sc p c) → serve (serving now) ≡ serving now → Facts j behind-scene p → IsCome p
    still later same-messages same-excepted same-busy calm facts =
        let taken : take j.clerk gone-message.1 sc.server ≡ serving now
        = left-taken j.clerk j.session sc.server.durable.epoch x n sl sc.server (working-at xs j sc sl k a) ∙ calm in (
          subst (λ u. InPhase j (behind sc rest u) p) (sym taken) (subst (λ ms. InPhase j (record sc { server = now; mail = ms }) p) (sym (append-nil rest)) (left-phase same-messages same-excepted same-busy facts)),
          subst (λ u. measure j (behind sc rest u) p + 32 ≤ measure j sc p) (sym taken) (subst (λ ms. measure j (record sc { server = now; mail = ms }) p + 32 ≤ measure j sc p) (sym (append-nil rest)) (left-less later)),
        )

  -- no phase of a start has such a message
  none-back : backs j sc.mail ≡ [] → ⊥
  none-back e = absurd (apart (sym (backs-are j sc x n rest mail) ∙ e))
    where
      apart : ◌≡◌ {A = Mail} (gone-message ∷ backs j rest) [] → ⊥
      apart e = cc

  -- a token of this number on an id that's given, of which the clerk doesn't know yet
  abbrev IsGiven : Clerk → Server → ℕ → ℕ → Type 0
  IsGiven k v m y = (token v.tokens j.session y ≡ Some (record { hold = Write; number = m })) × (last y k.cache < m)

  each-given : (k : Clerk) (m : ℕ) → n ≤ last x k.cache → (ys : List ℕ) → Each (IsGiven k sc.server m) ys → Each (IsGiven k now m) ys
  each-given k m known [] e = tt
  each-given k m known (y ∷ ys) e =
      let later : last y k.cache < m = (e.0).1 in
      ((kept-token y (record { hold = Write; number = m }) (e.0).0 (λ same. omega (arith, known, ap (λ z. last z k.cache) same, later)), later), each-given k m known ys e.1)

  no-later : (k : Clerk) → Later [] k
  no-later k t m e = absurd m

  pub left-next : (p : Phase) → InPhase j sc p → IsCome p
  unfolding recalled-left asking-left saving-left
  left-next (Greets age) ip = absurd (none-back ip.facts.1.none_back)
  left-next (Opens age) ip = absurd (none-back ip.facts.1.none_back)
  left-next (Claims None) ip =
      let a : HasEnded j sc = ip.facts.1 in
      still (Claims None) ip [] a.slot a.clerk a.working (no-later a.clerk) refl (λ c. refl) (λ c. refl) (calm-none ip.facts.0) (ip.facts.0, ended-left a)
  left-next (Claims (Some w)) ip =
      let a : IsWanting [] j sc w.0 w.1 0 = ip.facts.1 in
      still (Claims (Some w)) ip [] a.slot a.clerk a.working (no-later a.clerk) refl (λ c. refl) (λ c. refl) (calm-none ip.facts.0) (ip.facts.0, wanting-left [] w.0 w.1 0 a)
  left-next (Wants y h l) ip =
      let a : IsWanting [] j sc y h l = ip.facts.1 in
      still (Wants y h l) ip [] a.slot a.clerk a.working (no-later a.clerk) refl (λ c. refl) (λ c. refl) (calm-none ip.facts.0) (ip.facts.0, wanting-left [] y h l a)
  left-next (Recalls y h rs bs) ip =
      let a : IsNoted j sc y h (bs ++ rs) = ip.facts.0 in
      still (Recalls y h rs bs) ip [] a.wanting.slot a.wanting.clerk a.wanting.working (no-later a.wanting.clerk) refl (λ c. refl) (λ c. refl) (calm-noted y h (bs ++ rs) a) (noted-left y h (bs ++ rs) a, ip.facts.1)
  left-next (Flushes y h r b ops more) ip =
      let a : IsNoted j sc y h (r ∷ []) = ip.facts.0 in
      still (Flushes y h r b ops more) ip [] a.wanting.slot a.wanting.clerk a.wanting.working (no-later a.wanting.clerk) refl (λ c. refl) (λ c. refl) (calm-noted y h (r ∷ []) a)
      (noted-left y h (r ∷ []) a, recalled-left 1 y h r b more (first-other sc.server.tokens j.session y h r [] a.conflicts) ip.facts.1, ip.facts.2)
  left-next (Keeps y h r b more) ip =
      let a : IsNoted j sc y h (r ∷ []) = ip.facts.0 in
      still (Keeps y h r b more) ip [] a.wanting.slot a.wanting.clerk a.wanting.working (no-later a.wanting.clerk) refl (λ c. refl) (λ c. refl) (calm-noted y h (r ∷ []) a)
      (noted-left y h (r ∷ []) a, recalled-left 0 y h r b more (first-other sc.server.tokens j.session y h r [] a.conflicts) ip.facts.1)
  left-next (Grants y h m) ip =
      let a : IsWanting (y ∷ []) j sc y h ip.facts.2 = ip.facts.3 in
      let known : n ≤ last x a.clerk.cache = given-number j sc.server.durable.epoch a.clerk x n (first-given j sc x n rest mail (y ∷ []) a.slot a.clerk a.working) in
      still (Grants y h m) ip (y ∷ []) a.slot a.clerk a.working
      (λ t q e.
      let same : x ≡ y = only-one x y q in
      omega (arith, same-number (token sc.server.tokens j.session y) (record { hold = h; number = m }) t ip.facts.1 (ap (token sc.server.tokens j.session) (sym same) ∙ e), ap (λ z. last z a.clerk.cache) same, a.number, ip.facts.4))
      refl (λ c. refl) (λ c. refl) (calm-none ip.facts.0)
      (ip.facts.0, kept-token y (record { hold = h; number = m }) ip.facts.1 (λ same. omega (arith, known, ap (λ z. last z a.clerk.cache) same, a.number, ip.facts.4)), ip.facts.2, wanting-left (y ∷ []) y h ip.facts.2 a, ip.facts.4, ip.facts.5)
  left-next (Asks again got ask) ip =
      let a : IsAsking [] j sc again ask = ip.facts.1 in
      still (Asks again got ask) ip [] a.slot a.clerk a.working (no-later a.clerk) refl (λ c. refl) (λ c. refl) (calm-none ip.facts.0) (ip.facts.0, asking-left [] again ask a, ip.facts.2, ip.facts.3)
  left-next (Gives got m first) ip =
      let a : IsAsking (run first ids_per_grant) j sc ip.facts.2 ip.facts.1 = ip.facts.3 in
      let known : n ≤ last x a.clerk.cache = given-number j sc.server.durable.epoch a.clerk x n (first-given j sc x n rest mail (run first ids_per_grant) a.slot a.clerk a.working) in
      still (Gives got m first) ip (run first ids_per_grant) a.slot a.clerk a.working
      (λ t q e.
      let f = each-member (IsGiven a.clerk sc.server m) (run first ids_per_grant) ip.facts.6 x q in
      omega (arith, same-number (token sc.server.tokens j.session x) (record { hold = Write; number = m }) t f.0 e, f.1))
      refl (λ c. refl) (λ c. refl) (calm-none ip.facts.0)
      (ip.facts.0, ip.facts.1, ip.facts.2, asking-left (run first ids_per_grant) ip.facts.2 ip.facts.1 a, ip.facts.4, ip.facts.5, each-given a.clerk m known (run first ids_per_grant) ip.facts.6)
  left-next (Refuses again ask live reserved) ip =
      let a : IsAsking [] j sc again ask = ip.facts.1 in
      still (Refuses again ask live reserved) ip [] a.slot a.clerk a.working (no-later a.clerk) refl (λ c. refl) (λ c. refl) (calm-none ip.facts.0) (ip.facts.0, asking-left [] again ask a, ip.facts.2)
  left-next (Saves b ops more) ip =
      let a : IsSaving 1 j sc b more = ip.facts.1 in
      still (Saves b ops more) ip [] a.slot a.clerk a.working (no-later a.clerk) refl (λ c. refl) (λ c. refl) (calm-none ip.facts.0) (ip.facts.0, saving-left 1 b more a, ip.facts.2)
  left-next (Saved b more) ip =
      let a : IsSaving 0 j sc b more = ip.facts.1 in
      still (Saved b more) ip [] a.slot a.clerk a.working (no-later a.clerk) refl (λ c. refl) (λ c. refl) (calm-none ip.facts.0) (ip.facts.0, saving-left 0 b more a)
  left-next Ends ip =
      let a : HasEnded j sc = ip.facts.1 in
      still Ends ip [] a.slot a.clerk a.working (no-later a.clerk) refl (λ c. refl) (λ c. refl) (calm-none ip.facts.0) (ip.facts.0, ended-left a)

-- What such a message says.

pub given-in : (j : Work) (sc : Scene) (p : Phase) → InPhase j sc p → (k : Clerk) × Each {A = ℕ × Msg} (λ m. IsGivenBack j sc.server.durable.epoch k m.1) (backs j sc.mail)
given-in j sc (Greets age) ip = (ip.facts.1.clerk, subst (Each {A = ℕ × Msg} (λ m. IsGivenBack j sc.server.durable.epoch ip.facts.1.clerk m.1)) (sym ip.facts.1.none_back) tt)
given-in j sc (Opens age) ip = (ip.facts.1.clerk, subst (Each {A = ℕ × Msg} (λ m. IsGivenBack j sc.server.durable.epoch ip.facts.1.clerk m.1)) (sym ip.facts.1.none_back) tt)
given-in j sc (Claims None) ip = let a : HasEnded j sc = ip.facts.1 in (a.clerk, a.working.given_back)
given-in j sc (Claims (Some w)) ip = let a : IsWanting [] j sc w.0 w.1 0 = ip.facts.1 in (a.clerk, a.working.given_back)
given-in j sc (Wants y h l) ip = (ip.facts.1.clerk, ip.facts.1.working.given_back)
given-in j sc (Recalls y h rs bs) ip = (ip.facts.0.wanting.clerk, ip.facts.0.wanting.working.given_back)
given-in j sc (Flushes y h r b ops more) ip = (ip.facts.0.wanting.clerk, ip.facts.0.wanting.working.given_back)
given-in j sc (Keeps y h r b more) ip = (ip.facts.0.wanting.clerk, ip.facts.0.wanting.working.given_back)
given-in j sc (Grants y h m) ip = (ip.facts.3.clerk, ip.facts.3.working.given_back)
given-in j sc (Asks again got ask) ip = (ip.facts.1.clerk, ip.facts.1.working.given_back)
given-in j sc (Gives got m first) ip = (ip.facts.3.clerk, ip.facts.3.working.given_back)
given-in j sc (Refuses again ask live reserved) ip = (ip.facts.1.clerk, ip.facts.1.working.given_back)
given-in j sc (Saves b ops more) ip = (ip.facts.1.clerk, ip.facts.1.working.given_back)
given-in j sc (Saved b more) ip = (ip.facts.1.clerk, ip.facts.1.working.given_back)
given-in j sc Ends ip = (ip.facts.1.clerk, ip.facts.1.working.given_back)

pub old-tokens-leave : (j : Work) (sc : Scene) (p : Phase) (m : ℕ × Msg) (rest : Mail) → InPhase j sc p → is_back j m ≡ true → sc.mail ≡ m ∷ rest → IsNext j sc p (delivered m.0 m.1 rest sc) p
old-tokens-leave j sc p m rest ip own mail =
    let given = given-in j sc p ip in
    let here : backs j sc.mail ≡ m ∷ backs j rest = ap (backs j) mail ∙ ap (λ b. cond b (m ∷ backs j rest) (backs j rest)) own in
    let all : Each {A = ℕ × Msg} (λ m. IsGivenBack j sc.server.durable.epoch given.0 m.1) (m ∷ backs j rest) = subst (Each {A = ℕ × Msg} (λ m. IsGivenBack j sc.server.durable.epoch given.0 m.1)) here given.1 in
    let g = all.0 in
    let clerk : m.0 ≡ j.clerk = eqb-true m.0 j.clerk (first-of (m.0 == j.clerk) (is_back_message m.1) own) in
    let same : m ≡ (j.clerk, msg.Back j.session sc.server.durable.epoch g.obj g.number Free) = ap (λ c. (c, m.1)) clerk ∙ ap (λ z. (j.clerk, z)) g.is in
    subst (λ z. IsNext j sc p (delivered z.0 z.1 rest sc) p) (sym same) (left-next j sc g.obj g.number rest (mail ∙ ap (λ z. z ∷ rest) same) p ip)
