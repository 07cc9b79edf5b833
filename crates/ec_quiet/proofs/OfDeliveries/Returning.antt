-- A holder's token that was recalled comes back.
use Rattle.std.proofs.Common.{◌≡◌, ◌≢◌, refl, sym, ap, subst, ◌∙◌, arith, ◌≤◌, ◌+◌, ℕ, Bool, true, false, not, ◌==◌, ◌&&◌, ◌||◌, cond, List, [], ◌∷◌, ◌++◌, map, filter, length, Option, Some, append-nil}
use Rattle.std.specs.Prelude.{is_none}
use Rattle.std.specs.List.{list_any}
use Rattle.std.proofs.lemmas.Bool.{eqb-true, true≢false}
use Rattle.ec_base.specs.Tables.{at}
use Rattle.ec_base.specs.Holds.{clash}
use Rattle.ec_base.specs.declared.ids.Hold.{Hold}
use Rattle.ec_volume.specs.Volume.{images}
use Rattle.ec_sessions.specs.declared.slot.Slot.{Slot}
use Rattle.ec_sessions.specs.OfTokens.Tokens.{Holder, token, mode, first_holder, conflicts, fits_back}
use Rattle.ec_sessions.specs.OfRecall.Due.{recall_to}
use Rattle.ec_wire.specs.declared.msg.Msg.{Msg}
use Rattle.ec_wire.specs.declared.msg.Msg.TheVariants as msg
use Rattle.ec_durable.specs.Durable.{slot}
use Rattle.ec_protocol.specs.Server.{Serving, serving, take, is_last_number}
use Rattle.ec_protocol.specs.declared.clerk.Clerk.{Clerk}
use Rattle.ec_protocol.specs.declared.server.Server.{Server}
use Rattle.ec_quiet.specs.Facts.{IsOrderly, IsIdleBut, Same, token_of, session_clerk as clerk_of}
use Rattle.ec_quiet.specs.Measure.{measure}
use Rattle.ec_quiet.specs.Phases.{Wants, Recalls, Grants, InPhase, IsNoted, HasGivenBack, main, is_back, back_of, want_of, excepted}
use Rattle.ec_quiet.specs.Scenes.{Mail, Scene, delivered}
use Rattle.ec_quiet.specs.Works.{Work}
use Rattle.ec_machine_laws.specs.Holding.{left_at}
use Rattle.ec_machine_laws.specs.Serving.{IsAtWork, with_wants, telling, lowering, granting}
use Rattle.ec_machine_laws.proofs.Given.{lowered-tokens}
use Rattle.ec_machine_laws.proofs.Rows.{token-lowered}
use Rattle.ec_machine_laws.proofs.Stepping.{back-waits, back-granted, grant-sent}
use Rattle.ec_quiet.proofs.Falling.{back-same, last-same}
use Rattle.ec_quiet.specs.OfDeliveries.Orderly.{IsLike, IsLikeBut, KeepsBacks, are_no_backs}
use Rattle.ec_quiet.proofs.OfDeliveries.Backed.{IsHolder, holder-of, holder-works, lowered-left, returned-idle}
use Rattle.ec_quiet.proofs.OfDeliveries.Idling.{idle-stays, like-back, like-wants, like-both}
use Rattle.ec_quiet.proofs.OfDeliveries.Ordering.{back-orderly, wants-orderly}
use Rattle.ec_quiet.proofs.OfDeliveries.Returned.{first-token, first-other, first-clashes, first-fits, first-leaves, others-left}
use Rattle.ec_quiet.proofs.OfDeliveries.Wanted.{not-in-one, granted-phase}
use Rattle.ec_quiet.proofs.OfDeliveries.Working.{wanting-stays, keeps-backs, main-joins, main-front}
use Rattle.ec_quiet.proofs.OfDeliveries.Frames.{like-but, other-clerk, idle-wider, no-back, keeps-front, noted-want, not-clear}
use Rattle.ec_quiet.specs.Goes.{GoesOn}
use Rattle.ec_base.proofs.Numbers.{same-self, turned}
use Rattle.ec_quiet.proofs.OfDeliveries.Claimed.{behind}

module _ (j : Work) (sc : Scene) (x : ℕ) (h : Hold) (b : Holder) (bs : List Holder) (rest : Mail) (ip : InPhase j sc (Recalls x h [] (b ∷ bs))) (mail : sc.mail ≡ back_of sc x h b ∷ rest) where
  abbrev noted : IsNoted j sc x h (b ∷ (bs ++ []))
  noted = ip.facts.0

  abbrev against : conflicts sc.server.tokens j.session x h ≡ b ∷ (bs ++ [])
  against = ip.facts.0.conflicts

  -- The holder.

  has : token sc.server.tokens b.0 x ≡ Some (record { hold = b.1; number = b.2 })
  has = first-token sc.server.tokens j.session x h b (bs ++ []) ip.orderly.sound against

  holder : IsHolder sc.server b.0
  holder = holder-of sc.server sc.clerks b.0 x (record { hold = b.1; number = b.2 }) ip.orderly has

  other : (b.0 == j.session) ≡ false
  other = first-other sc.server.tokens j.session x h b (bs ++ []) against

  fits : fits_back (token sc.server.tokens b.0 x) b.2 (recall_to h) ≡ true
  fits = first-fits sc.server.tokens j.session x h b (bs ++ []) ip.orderly.sound against

  apart : (clerk_of sc.server b.0 == j.clerk) ≡ false
  apart = other-clerk j sc.server b.0 holder noted.wanting.slot noted.wanting.working.inside.there noted.wanting.working.session other

  -- The mail.

  not-own : is_back j (back_of sc x h b) ≡ false
  not-own = ap (λ a. a && true) apart

  others-on-way : main j rest ≡ map (back_of sc x h) bs
  others-on-way =
      let both : back_of sc x h b ∷ main j rest ≡ back_of sc x h b ∷ map (back_of sc x h) bs = sym (main-front j (back_of sc x h b) rest not-own) ∙ ap (main j) (sym mail) ∙ ip.main_is in
      cc

  keeps : (ns : Mail) → are_no_backs ns ≡ true → KeepsBacks j sc.mail (rest ++ ns)
  keeps ns none = subst (λ ms. KeepsBacks j ms (rest ++ ns)) (sym mail) (keeps-backs j (back_of sc x h b) rest ns not-own none)

  -- The server.

  abbrev lower : Server
  lower = lowering b.0 x (recall_to h) b.2 sc.server

  left : conflicts lower.tokens j.session x h ≡ bs ++ []
  left = first-leaves sc.server.tokens j.session x h b (bs ++ []) ip.orderly.sound against

  lower-orderly : IsOrderly lower sc.clerks
  lower-orderly = back-orderly sc.server sc.clerks b.0 x b.2 (recall_to h) ip.orderly fits

  like-own : IsLike sc.server lower j.clerk j.session
  like-own = like-back sc.server b.0 x (recall_to h) b.2 j.clerk j.session (turned j.session b.0 ∙ other)

  -- The other clerks.

  like-holder : (c s : ℕ) → IsLikeBut (x ∷ []) sc.server lower c s
  like-holder c s = record {
    slot = refl;
    epoch = refl;
    claimed = λ e. e;
    number = omega arith;
    tokens = λ y m. lowered-tokens sc.server.tokens b.0 x (recall_to h) b.2 s y ∙ ap (λ q. cond ((s == b.0) && q) (left_at (recall_to h) b.2) (token sc.server.tokens s y)) (not-in-one x y m) ∙ off (s == b.0) y;
  }
    where
      off : (a : Bool) (y : ℕ) → cond (a && false) (left_at (recall_to h) b.2) (token sc.server.tokens s y) ≡ token sc.server.tokens s y
      off true y = refl
      off false y = refl

  -- the holder has what it gave back
  holder-has : (c : ℕ) (k : Clerk) → clerk_of sc.server b.0 ≡ c → at c sc.clerks ≡ Some k → Same lower b.0 k x
  holder-has c k here there =
      let given : HasGivenBack sc x h b = ip.facts.1.0 in
      let both : ◌≡◌ {A = Option Clerk} (Some given.0) (Some k) = sym given.1 ∙ ap (λ z. at z sc.clerks) here ∙ there in
      let same : given.0 ≡ k = cc in
      token-lowered sc.server.tokens b.0 x (recall_to h) b.2 ∙ sym (lowered-left (recall_to h) b.2) ∙ sym (ap (λ z. token_of (at x z.cache.held)) (sym same) ∙ given.2)

  others-idle : (c : ℕ) (k : Clerk) → (c == j.clerk) ≡ false → at c sc.clerks ≡ Some k → (sl : Slot) × IsIdleBut (excepted sc (Recalls x h [] bs) c) lower c sl k
  others-idle c k away there = let i = ip.others c k away refl there in go (clerk_of sc.server b.0 == c) refl i.0 i.1
    where
      more : List ℕ
      more = excepted sc (Recalls x h [] bs) c

      go : (a : Bool) → (clerk_of sc.server b.0 == c) ≡ a → (sl : Slot) → IsIdleBut (elim (a || list_any (λ r. clerk_of sc.server r.0 == c) bs) as (λ z. List ℕ) [ true ↦ x ∷ [] | false ↦ [] ]) sc.server c sl k → (sl : Slot) × IsIdleBut more lower c sl k
      go true e sl i = (sl, idle-wider more lower c sl k (returned-idle x sc.server lower c sl k (like-holder c sl.session) (subst (λ s. Same lower s k x) (sym own) (holder-has c k here there)) i))
        where
          here : clerk_of sc.server b.0 ≡ c
          here = eqb-true (clerk_of sc.server b.0) c e

          own : sl.session ≡ b.0
          own =
              let both : ◌≡◌ {A = Option Slot} (Some holder.slot_is) (Some sl) = sym holder.there ∙ ap (slot sc.server.durable) here ∙ i.inside.there in
              let same : holder.slot_is ≡ sl = cc in
              sym (ap (λ z. z.session) same) ∙ holder.session
      go false e sl i = (sl, idle-stays more sc.server lower c sl k (like-back sc.server b.0 x (recall_to h) b.2 c sl.session (far (sl.session == b.0) refl)) i)
        where
          far : (a : Bool) → (sl.session == b.0) ≡ a → a ≡ false
          far true q =
              let same : clerk_of sc.server b.0 ≡ c = ap (clerk_of sc.server) (sym (eqb-true sl.session b.0 q)) ∙ ip.orderly.own c sl i.inside.there in
              absurd (true≢false (sym (ap (λ z. z == c) same ∙ same-self c) ∙ e))
          far false q = refl

  -- Others are still to give back.

  abbrev still : Server
  still = record lower { recalls = telling (conflicts lower.tokens j.session x h) (noted-want j x h (b ∷ (bs ++ []))) ∷ [] }

  still-phase : bs ++ [] ≢ [] → InPhase j (record sc { server = still; mail = rest ++ [] }) (Recalls x h [] bs)
  still-phase some = record {
    clerk = ip.clerk;
    number = ip.number;
    main_is = main-joins j rest [] refl ∙ append-nil (main j rest) ∙ others-on-way;
    orderly = wants-orderly lower sc.clerks still.recalls lower-orderly;
    others = λ c k away busy there.
        let i = others-idle c k away there in
        (i.0, idle-stays (excepted sc (Recalls x h [] bs) c) lower still c i.0 k (like-wants lower still.recalls c (i.0).session) i.1);
    facts = (
      record {
        last = noted.last;
        wanting = wanting-stays [] [] j sc still (rest ++ []) (λ y m. m) (like-but [] sc.server still j.clerk j.session (like-both sc.server lower still j.clerk j.session like-own (like-wants lower still.recalls j.clerk j.session))) (keeps [] refl) x h noted.last noted.wanting;
        recalls = ap (λ gs. telling gs (noted-want j x h (b ∷ (bs ++ []))) ∷ []) left;
        conflicts = left;
        some = some;
      },
      ip.facts.1.1,
    );
  }

  clashes : clash (mode (token sc.server.tokens b.0 x)) h ≡ true
  clashes = ap (λ o. clash (mode o) h) has ∙ first-clashes sc.server.tokens j.session x h b (bs ++ []) against

  still-less : measure j (record sc { server = still; mail = rest ++ [] }) (Recalls x h [] bs) + 32 ≤ measure j sc (Recalls x h [] (b ∷ bs))
  still-less = omega (arith, back-same j sc.server.tokens sc.clerks x b.0 b.2 h ip.orderly.sound other clashes, ap length ((keeps [] refl).same))

  at-work : IsAtWork (clerk_of sc.server b.0) b.0 sc.server.durable.epoch holder.slot_is (serving sc.server)
  at-work = holder-works sc.server sc.clerks b.0 ip.orderly holder

  still-taken : bs ++ [] ≢ [] → take (clerk_of sc.server b.0) (back_of sc x h b).1 sc.server ≡ serving still
  still-taken some =
      back-waits (clerk_of sc.server b.0) b.0 sc.server.durable.epoch x b.2 (recall_to h) holder.slot_is sc.server at-work fits (noted-want j x h (b ∷ (bs ++ []))) noted.recalls ip.orderly.claimed (b ∷ (bs ++ [])) (λ g. not (g.0 == b.0)) refl
      (left ∙ sym (others-left sc.server.tokens j.session x h b (bs ++ []) ip.orderly.sound against) ∙ ap (filter (λ g. not (g.0 == b.0))) against) (not-clear lower.tokens j.session x h (bs ++ []) left some)

-- The last one: the want is granted, as if it came now.

module _ (j : Work) (sc : Scene) (x : ℕ) (h : Hold) (b : Holder) (rest : Mail) (ip : InPhase j sc (Recalls x h [] (b ∷ []))) (mail : sc.mail ≡ back_of sc x h b ∷ rest) where
  abbrev last : ℕ
  last = ip.facts.0.last

  abbrev lowest : Server
  lowest = record (lowering b.0 x (recall_to h) b.2 sc.server) { recalls = [] }

  abbrev want : ℕ × Msg
  want = want_of j sc.server.durable.epoch x h last

  abbrev as-wanted : Scene
  as-wanted = record sc { server = lowest; mail = want ∷ rest }

  abbrev lower-of : Server
  lower-of = lowering b.0 x (recall_to h) b.2 sc.server

  keeps-want : KeepsBacks j sc.mail (want ∷ rest)
  keeps-want = subst (λ ms. KeepsBacks j ms (want ∷ rest)) (sym mail) (keeps-front j (back_of sc x h b) want rest (not-own j sc x h b [] rest ip mail) (no-back j j.clerk want.1 refl))

  wanted-phase : InPhase j as-wanted (Wants x h last)
  wanted-phase = record {
    clerk = ip.clerk;
    number = ip.number;
    main_is = main-front j want rest (no-back j j.clerk want.1 refl) ∙ ap (λ ms. want ∷ ms) (others-on-way j sc x h b [] rest ip mail);
    orderly = wants-orderly lower-of sc.clerks [] (lower-orderly j sc x h b [] rest ip mail);
    others = λ c k away busy there.
        let i = others-idle j sc x h b [] rest ip mail c k away there in
        (i.0, idle-stays [] lower-of lowest c i.0 k (like-wants lower-of [] c (i.0).session) i.1);
    facts = (
      refl,
      wanting-stays [] [] j sc lowest (want ∷ rest) (λ y m. m) (like-but [] sc.server lowest j.clerk j.session (like-both sc.server lower-of lowest j.clerk j.session (like-own j sc x h b [] rest ip mail) (like-wants lower-of [] j.clerk j.session))) keeps-want x h last ip.facts.0.wanting,
    );
  }

  all-back : conflicts lower-of.tokens j.session x h ≡ []
  all-back = left j sc x h b [] rest ip mail

  abbrev grants : Serving
  grants = granting j.session x h (with_wants [] (serving lower-of))

  grants-phase : InPhase j (behind sc rest grants) (Grants x h (sc.server.number + 1))
  grants-phase = granted-phase j as-wanted x h last rest wanted-phase refl (ap (λ gs. is_none (first_holder gs)) all-back)

  grants-less : measure j (behind sc rest grants) (Grants x h (sc.server.number + 1)) + 32 ≤ measure j sc (Recalls x h [] (b ∷ []))
  grants-less =
      omega (
        arith,
        last-same j lower-of.tokens sc.clerks x (sc.server.number + 1) h (lower-orderly j sc x h b [] rest ip mail).sound all-back (omega (arith, ip.number)),
        back-same j sc.server.tokens sc.clerks x b.0 b.2 h ip.orderly.sound (other j sc x h b [] rest ip mail) (clashes j sc x h b [] rest ip mail),
        ap length ((keeps j sc x h b [] rest ip mail (grant-message ∷ []) refl).same),
      )
    where
      grant-message : ℕ × Msg
      grant-message = (clerk_of sc.server j.session, msg.Grant j.session sc.server.durable.epoch x (sc.server.number + 1) h (images sc.server.durable.volume x))

  grants-taken : is_last_number (serving sc.server) ≡ false → take (clerk_of sc.server b.0) (back_of sc x h b).1 sc.server ≡ grants
  grants-taken counts =
      back-granted (clerk_of sc.server b.0) b.0 sc.server.durable.epoch x b.2 (recall_to h) (holder j sc x h b [] rest ip mail).slot_is sc.server (at-work j sc x h b [] rest ip mail) (fits j sc x h b [] rest ip mail)
      (noted-want j x h (b ∷ [])) ip.facts.0.recalls ip.orderly.claimed (ap (λ gs. is_none (first_holder gs)) all-back)
      ∙ grant-sent (with_wants [] (serving lower-of)) j.session x h counts

pub backs-come-back : (j : Work) (sc : Scene) (x : ℕ) (h : Hold) (b : Holder) (bs : List Holder) (rest : Mail) → InPhase j sc (Recalls x h [] (b ∷ bs)) → is_last_number (serving sc.server) ≡ false → sc.mail ≡ back_of sc x h b ∷ rest
    → GoesOn j sc (Recalls x h [] (b ∷ bs)) (delivered (clerk_of sc.server b.0) (back_of sc x h b).1 rest sc)
backs-come-back j sc x h b [] rest ip counts mail = (
  Grants x h (sc.server.number + 1),
  subst (λ u. InPhase j (behind sc rest u) (Grants x h (sc.server.number + 1))) (sym (grants-taken j sc x h b rest ip mail counts)) (grants-phase j sc x h b rest ip mail),
  subst (λ u. measure j (behind sc rest u) (Grants x h (sc.server.number + 1)) + 32 ≤ measure j sc (Recalls x h [] (b ∷ []))) (sym (grants-taken j sc x h b rest ip mail counts)) (grants-less j sc x h b rest ip mail),
)
backs-come-back j sc x h b (g ∷ gs) rest ip counts mail = (
  Recalls x h [] (g ∷ gs),
  subst (λ u. InPhase j (behind sc rest u) (Recalls x h [] (g ∷ gs))) (sym taken) (still-phase j sc x h b (g ∷ gs) rest ip mail some),
  subst (λ u. measure j (behind sc rest u) (Recalls x h [] (g ∷ gs)) + 32 ≤ measure j sc (Recalls x h [] (b ∷ g ∷ gs))) (sym taken) (still-less j sc x h b (g ∷ gs) rest ip mail),
)
  where
    some : g ∷ (gs ++ []) ≢ []
    some e = absurd (none (gs ++ []) e)
      where
        none : (zs : List Holder) → ◌≡◌ {A = List Holder} (g ∷ zs) [] → ⊥
        none zs e = cc

    taken : take (clerk_of sc.server b.0) (back_of sc x h b).1 sc.server ≡ serving (still j sc x h b (g ∷ gs) rest ip mail)
    taken = still-taken j sc x h b (g ∷ gs) rest ip mail some
