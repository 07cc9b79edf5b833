-- Ids that are asked for are given or refused.
use Rattle.std.proofs.Common.{◌≡◌, refl, sym, ap, subst, ◌∙◌, arith, ◌≤◌, ◌<◌, ◌+◌, ◌*◌, ◌-◌, ℕ, T, Bool, true, false, ◌==◌, ◌&&◌, ◌||◌, cond, List, [], ◌∷◌, ◌++◌, length, Option, Some, None, Ok}
use Rattle.std.specs.Prelude.{nat_lt, nat_le, Result, Err}
use Rattle.std.proofs.lemmas.Bool.Decides.{nat_tests}
use Rattle.ec_base.specs.Tables.{Table}
use Rattle.ec_base.specs.declared.ids.Hold.TheVariants.{Write}
use Rattle.ec_volume.specs.Update.{member}
use Rattle.ec_history.specs.History.{Each}
use Rattle.ec_sessions.specs.Limits.{ids_per_grant, last_first_id, last_grants}
use Rattle.ec_sessions.specs.Slots.{run}
use Rattle.ec_sessions.specs.Slots as slots
use Rattle.ec_sessions.specs.declared.slot.Slot.{Slot}
use Rattle.ec_sessions.specs.OfTokens.Laws.{sound_granted, token-granted}
use Rattle.ec_sessions.specs.OfTokens.Tokens.{Tokens, token, is_clear, granted}
use Rattle.ec_sessions.specs.OfTokens.SoundTokens.{IsSound}
use Rattle.ec_sessions.specs.declared.tokens.token.Token.{Token}
use Rattle.ec_wire.specs.declared.msg.Msg.{Msg}
use Rattle.ec_wire.specs.declared.msg.Msg.TheVariants as msg
use Rattle.ec_durable.specs.Durable.{step, slot, live, reserved, is_full, is_session, is_next_grant, grants, with_slot}
use Rattle.ec_durable.specs.declared.record.Record.TheVariants.{Ids}
use Rattle.ec_durable.specs.declared.record.RecordFault.{RecordFault}
use Rattle.ec_durable.specs.declared.record.RecordFault.TheVariants.{NoSession, BadNumber, NoRoom}
use Rattle.ec_durable.specs.declared.state.Durable.{Durable}
use Rattle.ec_protocol.specs.Server.{Serving, serving, take, is_last_number, ids_are_spent, with_ids}
use Rattle.ec_protocol.specs.declared.clerk.Clerk.{Clerk}
use Rattle.ec_protocol.specs.declared.server.Server.{Server}
use Rattle.ec_cache.specs.Cache.{last}
use Rattle.ec_quiet.specs.Measure.{measure, base, fresh_rank, own_price, others_price}
use Rattle.ec_quiet.specs.Phases.{Phase, Asks, Gives, Refuses, InPhase, IsAsking, main, is_back}
use Rattle.ec_quiet.specs.Scenes.{Mail, Scene, delivered}
use Rattle.ec_quiet.specs.Works.{Work}
use Rattle.ec_quiet.proofs.Terms.{sum-same, sum-le}
use Rattle.ec_machine_laws.specs.Holding.{AreOwn}
use Rattle.ec_machine_laws.specs.Records.{IsRestOf}
use Rattle.ec_machine_laws.specs.Serving.{IsAtWork, giving_ids}
use Rattle.ec_machine_laws.proofs.Given.{ids-tokens}
use Rattle.ec_machine_laws.proofs.Recording.{ids-own, ids-rest}
use Rattle.ec_machine_laws.proofs.Stepping.{room-refused, room-granted}
use Rattle.ec_quiet.proofs.Falling.{granted-others}
use Rattle.ec_quiet.specs.OfDeliveries.Orderly.{IsLike, HasMoved, KeepsBacks, are_no_backs}
use Rattle.ec_quiet.proofs.OfDeliveries.Claimed.{working-at, like-self, behind}
use Rattle.ec_quiet.proofs.OfDeliveries.Idling.{idle-stays}
use Rattle.ec_quiet.proofs.OfDeliveries.Ordering.{ids-orderly}
use Rattle.ec_quiet.proofs.OfDeliveries.Wanted.{other-session}
use Rattle.ec_quiet.proofs.OfDeliveries.Working.{working-moves, working-stays, keeps-backs, main-joins, main-front}
use Rattle.ec_quiet.specs.OfDeliveries.Coming.{IsFreshFor}
use Rattle.ec_quiet.proofs.OfDeliveries.Frames.{no-back}
use Rattle.ec_quiet.specs.Goes.{GoesOn}
use Rattle.ec_base.proofs.Numbers.{same-self}
use Rattle.ec_base.proofs.Bools.{no-longer, is-true}

-- The measure.

granted-less : (j : Work) (ts : Tokens) (n x : ℕ) → j.number < n → (y : ℕ) → own_price j None (granted j.session x Write n ts) y ≤ own_price j None ts y
granted-less j ts n x new y = subst (λ o. 672 * (2 - fresh_rank j.number o) ≤ own_price j None ts y) (sym (token-granted ts j.session x Write n j.session y)) (go ((j.session == j.session) && (y == x)))
  where
    highest : fresh_rank j.number (Some (record { hold = Write; number = n })) ≡ 2
    highest = ap (λ b. elim b as (λ z. ℕ) [ true ↦ 2 | false ↦ 0 ]) (later j.number n new)
      where
        later : (m n : ℕ) → m < n → nat_lt m n ≡ true
        later m n l = grind (arith, nat_tests, l)

    go : (b : Bool) → 672 * (2 - fresh_rank j.number (cond b (Some (record { hold = Write; number = n })) (token ts j.session y))) ≤ own_price j None ts y
    go true = subst (λ r. 672 * (2 - r) ≤ own_price j None ts y) (sym highest) (omega arith)
    go false = omega arith

with-ids-own : (j : Work) (n : ℕ) → j.number < n → (xs : List ℕ) (ts : Tokens) (y : ℕ) → own_price j None (with_ids j.session n xs ts) y ≤ own_price j None ts y
with-ids-own j n new [] ts y = omega arith
with-ids-own j n new (x ∷ xs) ts y = go (is_clear ts j.session x Write) (λ us. with-ids-own j n new xs us y)
  where
    go : (b : Bool) → ((us : Tokens) → own_price j None (with_ids j.session n xs us) y ≤ own_price j None us y)
        → own_price j None (with_ids j.session n xs (elim b as (λ z. Tokens) [ true ↦ granted j.session x Write n ts | false ↦ ts ])) y ≤ own_price j None ts y
    go true more = omega (arith, more (granted j.session x Write n ts), granted-less j ts n x new y)
    go false more = more ts

with-ids-others : (j : Work) (n : ℕ) (xs : List ℕ) (ts : Tokens) → IsSound ts → (y : ℕ) → others_price j None (with_ids j.session n xs ts) y ≡ others_price j None ts y
with-ids-others j n [] ts sound y = refl
with-ids-others j n (x ∷ xs) ts sound y = go (is_clear ts j.session x Write) refl (λ us s. with-ids-others j n xs us s y)
  where
    go : (b : Bool) → is_clear ts j.session x Write ≡ b → ((us : Tokens) → IsSound us → others_price j None (with_ids j.session n xs us) y ≡ others_price j None us y)
        → others_price j None (with_ids j.session n xs (elim b as (λ z. Tokens) [ true ↦ granted j.session x Write n ts | false ↦ ts ])) y ≡ others_price j None ts y
    go true e more = more (granted j.session x Write n ts) (sound_granted ts j.session sound x Write n refl e) ∙ granted-others j None ts x n Write sound y
    go false e more = more ts sound

ids-less : (j : Work) (ts : Tokens) (clerks : Table Clerk) (n : ℕ) (xs : List ℕ) → IsSound ts → j.number < n → base j None (with_ids j.session n xs ts) clerks ≤ base j None ts clerks
ids-less j ts clerks n xs sound new =
    omega (
      arith,
      sum-le (own_price j None (with_ids j.session n xs ts)) (own_price j None ts) (with-ids-own j n new xs ts) j.touched,
      sum-same (others_price j None (with_ids j.session n xs ts)) (others_price j None ts) (with-ids-others j n xs ts sound) j.touched,
    )

-- The record is taken.

abbrev given-state : ℕ → Durable → Durable
given-state c d = with_slot c (slots.granted d.next_id (slot d c)) (record d { next_id = d.next_id + ids_per_grant })

counted : (most last got first g : ℕ) → got ≡ g → (nat_lt most first || nat_le last got) ≡ false → ((got == g) && nat_lt got last && (first == first) && nat_le first most) ≡ true
counted most last got first g e spent = grind (arith, nat_tests, e, spent)

ids-step : (c ss got : ℕ) (v : Server) (sl : Slot) → slot v.durable c ≡ Some sl → sl.session ≡ ss → sl.is_open ≡ true → got ≡ sl.grants → is_full v.durable ≡ false → ids_are_spent got (serving v) ≡ false
    → step (Ids c ss got v.durable.next_id) v.durable ≡ Ok (given-state c v.durable)
ids-step c ss got v sl there own opened next full spent =
    ap first-or session-is ∙ ap next-or next-is ∙ ap full-or full
  where
    full-or : Bool → Result Durable RecordFault
    full-or b = elim b as (λ z. Result Durable RecordFault) [ true ↦ Err (NoRoom (live v.durable) (reserved v.durable)) | false ↦ Ok (given-state c v.durable) ]

    next-or : Bool → Result Durable RecordFault
    next-or b = elim b as (λ z. Result Durable RecordFault) [ false ↦ Err BadNumber | true ↦ full-or (is_full v.durable) ]

    first-or : Bool → Result Durable RecordFault
    first-or b = elim b as (λ z. Result Durable RecordFault) [ false ↦ Err NoSession | true ↦ next-or (is_next_grant c got v.durable.next_id v.durable) ]

    session-is : is_session ss (slot v.durable c) ≡ true
    session-is = ap (is_session ss) there ∙ ap (λ b. b && (sl.session == ss)) opened ∙ ap (λ z. z == ss) own ∙ same-self ss

    next-is : is_next_grant c got v.durable.next_id v.durable ≡ true
    next-is = counted last_first_id last_grants got v.durable.next_id (grants (slot v.durable c)) (next ∙ ap grants (sym there)) spent

-- The phases.

each-of : (P : ℕ → Type 0) (xs : List ℕ) → ((x : ℕ) → T (member x xs) → P x) → Each P xs
each-of P [] f = tt
each-of P (x ∷ xs) f = (f x (or-left (x == x) (member x xs) (subst T (sym (same-self x)) tt)), each-of P xs (λ y m. f y (or-right (y == x) (member y xs) m)))
  where
    or-left : (a b : Bool) → T a → T (a || b)
    or-left true b h = tt
    or-left false b h = absurd h

    or-right : (a b : Bool) → T b → T (a || b)
    or-right true b h = tt
    or-right false b h = h

module _ (j : Work) (sc : Scene) (again : Bool) (got ask : ℕ) (rest : Mail) (ip : InPhase j sc (Asks again got ask)) (mail : sc.mail ≡ (j.clerk, msg.Room j.session sc.server.durable.epoch got ask) ∷ rest) where
  abbrev asking : IsAsking [] j sc again ask
  asking = ip.facts.1

  abbrev room : ℕ × Msg
  room = (j.clerk, msg.Room j.session sc.server.durable.epoch got ask)

  not-own : is_back j room ≡ false
  not-own = no-back j j.clerk room.1 refl

  keeps : (ns : Mail) → are_no_backs ns ≡ true → KeepsBacks j sc.mail (rest ++ ns)
  keeps ns none = subst (λ ms. KeepsBacks j ms (rest ++ ns)) (sym mail) (keeps-backs j room rest ns not-own none)

  alone : main j rest ≡ []
  alone =
      let both : room ∷ main j rest ≡ room ∷ [] = sym (main-front j room rest not-own) ∙ ap (main j) (sym mail) ∙ ip.main_is in
      cc

  at-work : IsAtWork j.clerk j.session sc.server.durable.epoch asking.slot (serving sc.server)
  at-work = working-at [] j sc asking.slot asking.clerk asking.working

  next-grant : (got == asking.slot.grants) ≡ true
  next-grant = ap (λ g. got == g) ip.facts.3 ∙ same-self got

  -- Refused.

  abbrev no-room : ℕ × Msg
  no-room = (j.clerk, msg.NoRoom j.session sc.server.durable.epoch ask (live sc.server.durable) (reserved sc.server.durable))

  abbrev refused : Serving
  refused = record (serving sc.server) { sent = no-room ∷ [] }

  abbrev refuses : Phase
  refuses = Refuses again ask (live sc.server.durable) (reserved sc.server.durable)

  refuses-phase : InPhase j (behind sc rest refused) refuses
  refuses-phase = record {
    clerk = ip.clerk;
    number = ip.number;
    main_is = main-joins j rest (no-room ∷ []) refl ∙ ap (λ ms. ms ++ no-room ∷ []) alone;
    orderly = ip.orderly;
    others = λ c k away busy there. ip.others c k away refl there;
    facts = (
      ip.facts.0,
      record {
        slot = asking.slot;
        clerk = asking.clerk;
        working = working-stays [] [] j sc sc.server (rest ++ no-room ∷ []) (λ y m. m) (like-self [] sc.server j.clerk j.session) (keeps (no-room ∷ []) refl) asking.slot asking.clerk asking.working;
        task = asking.task;
        asking = asking.asking;
        ids = asking.ids;
        makes = asking.makes;
        batches = asking.batches;
        window = asking.window;
        answered = asking.answered;
        aged = asking.aged;
        lacks = asking.lacks;
      },
      ip.facts.3 ∙ ip.facts.2,
    );
  }

  refuses-less : measure j (behind sc rest refused) refuses + 32 ≤ measure j sc (Asks again got ask)
  refuses-less = omega (arith, ap length ((keeps (no-room ∷ []) refl).same))

  -- Given.

  module _ (own : AreOwn j.session (run sc.server.durable.next_id ids_per_grant) sc.server.tokens) (d : Durable) (ok : step (Ids j.clerk j.session got sc.server.durable.next_id) sc.server.durable ≡ Ok d) where
    abbrev first : ℕ
    first = sc.server.durable.next_id

    abbrev number : ℕ
    number = sc.server.number + 1

    abbrev now : Server
    now = giving_ids j.session first d sc.server

    abbrev ids : ℕ × Msg
    ids = (j.clerk, msg.Ids j.session d.epoch got number first)

    abbrev given : Serving
    given = record { server = now; sent = ids ∷ []; rec = Some (Ids j.clerk j.session got first); spent = None }

    abbrev new-slot : Slot
    new-slot = record (asking.slot) { grants = asking.slot.grants + 1; last_first = Some first; unspent = slots.with_ids first asking.slot.unspent }

    rest-is : IsRestOf j.clerk sc.server.durable d
    rest-is = ids-rest j.clerk j.session got first sc.server.durable d ok

    tokens-are : (s y : ℕ) → token now.tokens s y ≡ cond {A = Option Token} ((s == j.session) && member y (run first ids_per_grant)) (Some (record { hold = Write; number = number })) (token sc.server.tokens s y)
    tokens-are s y = ids-tokens sc.server.tokens j.session number (run first ids_per_grant) ip.orderly.sound own s y

    slot-moves : HasMoved (run first ids_per_grant) sc.server now j.clerk j.session asking.slot new-slot
    slot-moves = record {
      slot = ids-own j.clerk j.session got first sc.server.durable d asking.slot asking.working.inside.there ok;
      session = refl;
      is_open = refl;
      epoch = rest-is.epoch;
      claimed = λ e. e;
      number = omega arith;
      tokens = λ y m. tokens-are j.session y ∙ ap (λ b. cond {A = Option Token} ((j.session == j.session) && b) (Some (record { hold = Write; number = number })) (token sc.server.tokens j.session y)) (no-longer (member y (run first ids_per_grant)) m) ∙ off (j.session == j.session) y;
    }
      where
        off : (a : Bool) (y : ℕ) → cond {A = Option Token} (a && false) (Some (record { hold = Write; number = number })) (token sc.server.tokens j.session y) ≡ token sc.server.tokens j.session y
        off true y = refl
        off false y = refl

    like-others : (c s : ℕ) → (c == j.clerk) ≡ false → (s == j.session) ≡ false → IsLike sc.server now c s
    like-others c s away apart = record {
      slot = rest-is.others c away;
      epoch = rest-is.epoch;
      claimed = λ e. e;
      number = omega arith;
      tokens = λ y. tokens-are s y ∙ ap (λ b. cond {A = Option Token} (b && member y (run first ids_per_grant)) (Some (record { hold = Write; number = number })) (token sc.server.tokens s y)) apart;
    }

    new-token : (y : ℕ) → T (member y (run first ids_per_grant)) → token now.tokens j.session y ≡ Some (record { hold = Write; number = number })
    new-token y m =
        tokens-are j.session y
        ∙ ap (λ b. cond {A = Option Token} (b && member y (run first ids_per_grant)) (Some (record { hold = Write; number = number })) (token sc.server.tokens j.session y)) (same-self j.session)
        ∙ ap (λ b. cond {A = Option Token} b (Some (record { hold = Write; number = number })) (token sc.server.tokens j.session y)) (is-true (member y (run first ids_per_grant)) m)

    gives-phase : InPhase j (behind sc rest given) (Gives got number first)
    gives-phase = record {
      clerk = ip.clerk;
      number = omega (arith, ip.number);
      main_is = main-joins j rest (ids ∷ []) refl ∙ ap (λ ms. ms ++ ids ∷ []) alone;
      orderly = ids-orderly sc.server sc.clerks j.clerk j.session got first d asking.slot ip.orderly asking.working.inside.there asking.working.session asking.working.inside.is_open own ok;
      others = λ c k away busy there.
          let i = ip.others c k away refl there in
          (i.0, idle-stays [] sc.server now c i.0 k (like-others c (i.0).session away (other-session j sc (Asks again got ask) ip asking.slot asking.working.inside.there asking.working.session c i.0 away (i.1).inside.there)) i.1);
      facts = (
        ip.facts.0,
        ask,
        again,
        record {
          slot = new-slot;
          clerk = asking.clerk;
          working = working-moves [] (run first ids_per_grant) j sc now (rest ++ ids ∷ []) (λ y m. absurd m) asking.slot new-slot slot-moves (keeps (ids ∷ []) refl) asking.clerk asking.working;
          task = asking.task;
          asking = asking.asking;
          ids = asking.ids;
          makes = asking.makes;
          batches = asking.batches;
          window = asking.window;
          answered = asking.answered;
          aged = asking.aged;
          lacks = asking.lacks;
        },
        ip.facts.2,
        ap (λ g. g + 1) ip.facts.3,
        each-of (λ y. (token now.tokens j.session y ≡ Some (record { hold = Write; number = number })) × (last y asking.clerk.cache < number)) (run first ids_per_grant)
            (λ y m. (new-token y m, omega (arith, asking.working.inside.lasts y))),
      );
    }

    gives-less : measure j (behind sc rest given) (Gives got number first) + 32 ≤ measure j sc (Asks again got ask)
    gives-less = omega (arith, ids-less j sc.server.tokens sc.clerks number (run first ids_per_grant) ip.orderly.sound (omega (arith, ip.number)), ap length ((keeps (ids ∷ []) refl).same))

pub ids-answered : (j : Work) (sc : Scene) (again : Bool) (got ask : ℕ) (rest : Mail) → InPhase j sc (Asks again got ask) → is_last_number (serving sc.server) ≡ false → IsFreshFor j.session got sc.server
    → sc.mail ≡ (j.clerk, msg.Room j.session sc.server.durable.epoch got ask) ∷ rest
    → GoesOn j sc (Asks again got ask) (delivered j.clerk (msg.Room j.session sc.server.durable.epoch got ask) rest sc)
ids-answered j sc again got ask rest ip counts fresh mail = go (is_full sc.server.durable) refl
  where
    q : IsAsking [] j sc again ask
    q = ip.facts.1

    request : Msg
    request = msg.Room j.session sc.server.durable.epoch got ask

    go : (b : Bool) → is_full sc.server.durable ≡ b → GoesOn j sc (Asks again got ask) (behind sc rest (take j.clerk request sc.server))
    go true full =
        let p : Phase = refuses j sc again got ask rest ip mail in
        let t : take j.clerk request sc.server ≡ refused j sc again got ask rest ip mail
        = room-refused j.clerk j.session sc.server.durable.epoch got ask q.slot sc.server (at-work j sc again got ask rest ip mail) ip.facts.0 (next-grant j sc again got ask rest ip mail) full in (
          p,
          subst (λ u. InPhase j (behind sc rest u) p) (sym t) (refuses-phase j sc again got ask rest ip mail),
          subst (λ u. measure j (behind sc rest u) p + 32 ≤ measure j sc (Asks again got ask)) (sym t) (refuses-less j sc again got ask rest ip mail),
        )
    go false full =
        let p : Phase = Gives got (sc.server.number + 1) sc.server.durable.next_id in
        let ok : step (Ids j.clerk j.session got sc.server.durable.next_id) sc.server.durable ≡ Ok (given-state j.clerk sc.server.durable)
        = ids-step j.clerk j.session got sc.server q.slot q.working.inside.there q.working.session q.working.inside.is_open (sym ip.facts.3) full (fresh.0 full) in
        let t : take j.clerk request sc.server ≡ given j sc again got ask rest ip mail fresh.1 (given-state j.clerk sc.server.durable) ok
        = room-granted j.clerk j.session sc.server.durable.epoch got ask q.slot sc.server (at-work j sc again got ask rest ip mail) ip.facts.0 (next-grant j sc again got ask rest ip mail) (given-state j.clerk sc.server.durable) full (fresh.0 full) counts ok in (
          p,
          subst (λ u. InPhase j (behind sc rest u) p) (sym t) (gives-phase j sc again got ask rest ip mail fresh.1 (given-state j.clerk sc.server.durable) ok),
          subst (λ u. measure j (behind sc rest u) p + 32 ≤ measure j sc (Asks again got ask)) (sym t) (gives-less j sc again got ask rest ip mail fresh.1 (given-state j.clerk sc.server.durable) ok),
        )
