-- The line's clerk takes its new session.
use Rattle.std.proofs.Common.{◌≡◌, refl, sym, ap, ◌∙◌, subst, arith, ◌≤◌, ◌+◌, ℕ, Bool, true, false, not, ◌&&◌, T, [], ◌∷◌, ◌++◌, inl, inr, ◌⊎◌, length}
use Rattle.std.specs.Prelude.{Option, None, Some, is_some, ◌==◌, drop}
use Rattle.std.proofs.lemmas.Bool.{eq-eqb}
use Rattle.ec_base.specs.Tables.{at}
use Rattle.ec_base.specs.Holds.{is_below}
use Rattle.ec_base.specs.declared.ids.Age.{Age}
use Rattle.ec_base.specs.declared.ids.Hold.{Hold}
use Rattle.ec_volume.specs.Update.{member}
use Rattle.ec_history.specs.History.{Each}
use Rattle.ec_plain.specs.declared.call.Call.{Call}
use Rattle.ec_sessions.specs.declared.slot.Slot.{Slot}
use Rattle.ec_cache.specs.Cache.{empty, last, mode}
use Rattle.ec_cache.specs.declared.state.Held.{Held}
use Rattle.ec_wire.specs.declared.msg.Msg.{Msg}
use Rattle.ec_wire.specs.declared.msg.Msg.TheVariants.{Claim, Opened, Want}
use Rattle.ec_cache.specs.OfResolve.Resolve.{evaluate}
use Rattle.ec_cache.specs.declared.resolve.verdict.Verdict.TheVariants.{Need}
use Rattle.ec_protocol.specs.Clerk.{Doing, Waits, doing, evict, first_id, has_session, max_tokens, same_age, send_want, settle, taken, try, try_verdict, verdict}
use Rattle.ec_protocol.specs.declared.clerk.Clerk.{Clerk}
use Rattle.ec_protocol.specs.declared.clerk.Out.TheVariants as out
use Rattle.ec_protocol.specs.declared.clerk.Waiting.{Waiting}
use Rattle.ec_quiet.specs.Facts.{IsIn, Lacks, token_of}
use Rattle.ec_quiet.specs.Measure.{measure}
use Rattle.ec_quiet.specs.Phases.{Claims, InPhase, IsAged, IsGivenBack, IsStarting, IsWorking, Lacking, Opens, backs, is_back, main, messages}
use Rattle.ec_quiet.specs.Scenes.{Mail, Scene, delivered, done_by, sends, taken_by}
use Rattle.ec_quiet.specs.Works.{Calls, HasTask, NothingWaits, Work}
use Rattle.ec_quiet.specs.Frames.{own_part}
use Rattle.ec_quiet.specs.Tries.{IsCalm, left_by}
use Rattle.ec_quiet.proofs.Beside.{backs-more, filter-both, main-more, own-at, own-comes, own-measure}
use Rattle.ec_quiet.proofs.Steps.{few-stay, prepared, tries-none, tries-one}
use Rattle.ec_quiet.proofs.Tried.{wants-it}
use Rattle.ec_quiet.proofs.Verdicts.{lacks-below, need-lacks}

module _ (j : Work) (sc : Scene) (age : Age) (rest : Mail) (q : InPhase j sc (Opens age)) (head : sc.mail ≡ (j.clerk, Opened age j.session sc.server.durable.epoch) ∷ rest) where
  abbrev e : ℕ
  e = sc.server.durable.epoch

  abbrev start : IsStarting j sc age
  start = q.facts.1

  abbrev k : Clerk
  k = start.clerk

  abbrev sl : Slot
  sl = q.facts.2

  -- the clerk in its session, which has sent its claim
  abbrev joined : Clerk
  joined = record k { session = Some j.session; epoch = e }

  abbrev claimed : Doing
  claimed = record { clerk = joined; outs = out.Send (Claim j.session e []) ∷ []; spent = None }

  takes : taken (Opened age j.session e) (doing k) ≡ claimed
  takes = go (has_session k) (same_age age k.age) (ap is_some start.new.session) (ap (same_age age) start.age_is ∙ same (age.boot == age.boot) (age.round == age.round) (eq-eqb age.boot age.boot refl) (eq-eqb age.round age.round refl))
    where
      same : (a b : Bool) → a ≡ true → b ≡ true → (a && b) ≡ true
      same true b f g = g
      same false b f g = f

      go : (a b : Bool) → a ≡ false → b ≡ true → elim (not a && b) as (λ z. Doing) [ true ↦ claimed | false ↦ doing k ] ≡ claimed
      go false true f g = refl
      go false false f g = absurd (grind (arith, g))
      go true b f g = absurd (grind (arith, f))

  few : length k.cache.held ≤ k.cache.capacity
  few = subst (λ c. length c.held ≤ c.capacity) (sym start.new.cache) (omega arith)

  -- Messages.

  main-rest : main j rest ≡ []
  main-rest = ap (λ l. drop 1 l) (sym (main-more j j.clerk (Opened age j.session e) refl rest) ∙ ap (main j) (sym head) ∙ q.main_is)

  backs-rest : backs j rest ≡ []
  backs-rest = sym (backs-more j j.clerk (Opened age j.session e) refl rest) ∙ ap (backs j) (sym head) ∙ start.none_back

  -- the step d of the clerk, which holds nothing and sent these messages
  module _ (d : Doing) (session : d.clerk.session ≡ Some j.session) (epoch : d.clerk.epoch ≡ e) (owed : d.clerk.owed ≡ []) (recalls : d.clerk.recalls ≡ []) (cache : d.clerk.cache ≡ empty max_tokens)
      (none : backs j (sends j.clerk d.outs) ≡ []) where
    abbrev now : Scene
    now = done_by j.clerk d rest sc

    now-backs : backs j now.mail ≡ []
    now-backs = filter-both (is_back j) rest (sends j.clerk d.outs) ∙ ap (λ l. l ++ backs j (sends j.clerk d.outs)) backs-rest ∙ none

    no-token : (x : ℕ) → at x d.clerk.cache.held ≡ None
    no-token x = ap (λ c. at x c.held) cache

    no-last : (x : ℕ) → last x d.clerk.cache ≡ 0
    no-last x = ap (last x) cache

    is-in : IsIn now.server j.clerk sl d.clerk
    is-in = record {
      there = q.facts.3;
      is_open = q.facts.4;
      session = session ∙ ap Some (sym q.facts.5);
      epoch = epoch;
      claimed = ap (λ s. Rattle.ec_protocol.specs.Server.has_claimed s sc.server) q.facts.5 ∙ q.facts.8;
      unowed = owed;
      numbers = λ x h f. held-none x h f;
      lasts = λ x. subst (λ n. n ≤ sc.server.number) (sym (no-last x)) (omega arith);
      capacity = ap (λ c. c.capacity) cache;
      room = subst (λ c. length c.held ≤ max_tokens) (sym cache) (omega arith);
    }
      where
        held-none : (x : ℕ) (h : Held) → at x d.clerk.cache.held ≡ Some h → h.number ≡ last x d.clerk.cache
        held-none x h f = let none : None ≡ Some h = sym (no-token x) ∙ f in absurd (grind (arith, none))

    working : IsWorking [] j now sl d.clerk
    working = record {
      there = own-at j.clerk d.clerk sc.clerks;
      inside = is-in;
      session = q.facts.5;
      recalls = recalls;
      limits = ap (λ c. c.limits) cache;
      same = λ x f. inl (start.tokenless x ∙ ap token_of (sym (no-token x)));
      given_back = subst (Each (λ m. IsGivenBack j e d.clerk m.1)) (sym now-backs) tt;
    }

    aged : IsAged j d.clerk
    aged = record { olds = []; news = []; whole = ap (λ c. c.held) cache; old = tt; fresh = tt }

  window : Lacks 0 sl k.log
  window = subst (Lacks 0 sl) (sym start.new.log) q.facts.7

  no-batches : k.log.batches ≡ []
  no-batches = ap (λ l. l.batches) start.new.log

  grants : sl.grants ≡ k.got
  grants = q.facts.6 ∙ sym start.new.got

  -- Nothing waits.

  ends : NothingWaits k → settle claimed ≡ claimed
  ends done = prepared claimed start.new.recalls done.1 ∙ ap evict (tries-none claimed done.0) ∙ few-stay claimed few

  abbrev ended : Scene
  ended = done_by j.clerk claimed rest sc

  claim-alone : backs j (sends j.clerk claimed.outs) ≡ []
  claim-alone = backs-more j j.clerk (Claim j.session e []) refl []

  in-claims : NothingWaits k → InPhase j ended (Claims None)
  in-claims done = own-comes j sc (Opens age) (Claims None) q tt tt claimed rest
      (filter-both (λ m. not (is_back j m)) rest (sends j.clerk claimed.outs) ∙ ap (λ l. l ++ main j (sends j.clerk claimed.outs)) main-rest ∙ main-more j j.clerk (Claim j.session e []) refl []) (
        q.facts.0,
        record {
          slot = sl;
          clerk = joined;
          working = working claimed refl refl start.new.owed start.new.recalls start.new.cache claim-alone;
          done = done;
          asking = start.new.asking;
          batches = no-batches;
          window = window;
          grants = grants;
          answered = subst (Each _) (sym start.new.wanted) tt;
        },
      )

  same-backs : (d : Doing) → backs j (sends j.clerk d.outs) ≡ [] → length (backs j (rest ++ sends j.clerk d.outs)) ≡ 0
  same-backs d none = ap length (filter-both (is_back j) rest (sends j.clerk d.outs) ∙ ap (λ l. l ++ backs j (sends j.clerk d.outs)) backs-rest ∙ none)

  before-backs : length (backs j sc.mail) ≡ 0
  before-backs = ap length start.none_back

  -- What is delivered so is the step's scene, and the measure falls.

  abbrev opened : Msg
  opened = Opened age j.session e

  abbrev Comes : Scene → Type 0
  Comes z = (o : Option (ℕ × Hold)) × InPhase j z (Claims o) × (measure j z (Claims o) + 32 ≡ measure j sc (Opens age))

  arrives : (d : Doing) → settle claimed ≡ d → delivered j.clerk opened rest sc ≡ done_by j.clerk d rest sc
  arrives d path = ap (λ o. taken_by j.clerk opened rest o sc) start.there ∙ ap (λ f. done_by j.clerk (settle f) rest sc) takes ∙ ap (λ f. done_by j.clerk f rest sc) path

  falls : (d : Doing) (o : Option (ℕ × Hold)) → own_part j d.clerk ≡ own_part j k → backs j (sends j.clerk d.outs) ≡ [] → measure j (done_by j.clerk d rest sc) (Claims o) + 32 ≡ measure j sc (Opens age)
  falls d o same none = omega (arith, own-measure j None sc.server.tokens sc.clerks k d.clerk q.orderly.rising start.there, same, same-backs d none, before-backs)

  results : (d : Doing) (o : Option (ℕ × Hold)) → settle claimed ≡ d → InPhase j (done_by j.clerk d rest sc) (Claims o) → own_part j d.clerk ≡ own_part j k → backs j (sends j.clerk d.outs) ≡ [] → Comes (delivered j.clerk opened rest sc)
  results d o path phase same none = subst Comes (sym (arrives d path)) (o, phase, falls d o same none)

  -- A token is wanted.

  module _ (cl : Call) (x : ℕ) (h : Hold) (is : j.task ≡ Calls cl) (w : Waiting) (waiting : k.waiting ≡ w ∷ []) (call : w.call ≡ cl) (pushes : k.pushes ≡ []) (lacks : verdict cl k ≡ Need x h) where
    below : is_below (mode x k.cache) h ≡ true
    below = lacks-below x h k.cache (ap (λ c. c.limits) start.new.cache) (need-lacks k.cache cl (first_id k.ids) x h (ap (λ o. evaluate k.cache o cl (first_id k.ids)) (sym start.new.owed) ∙ lacks))

    calm : IsCalm joined
    calm = record {
      session = refl;
      free = record { recalls = start.new.recalls; limits = ap (λ c. c.limits) start.new.cache; batches = no-batches };
      unowed = start.new.owed;
      asking = start.new.asking;
      answered = subst (Each _) (sym start.new.wanted) tt;
    }

    abbrev wanting : Doing
    wanting = send_want x h claimed

    tried : try w claimed ≡ Waits wanting
    tried = ap (λ v. try_verdict w v claimed) (ap (λ c. verdict c joined) call ∙ lacks) ∙ ap Waits (wants-it claimed calm x h below)

    settles : settle claimed ≡ wanting
    settles = prepared claimed start.new.recalls pushes ∙ ap evict (tries-one claimed w waiting ∙ ap left_by tried) ∙ few-stay wanting few

    no-last-yet : last x k.cache ≡ 0
    no-last-yet = ap (last x) start.new.cache

    abbrev sent : Mail
    sent = (j.clerk, Claim j.session e []) ∷ (j.clerk, Want j.session e x h (last x k.cache)) ∷ []

    none-back : backs j sent ≡ []
    none-back = backs-more j j.clerk (Claim j.session e []) refl ((j.clerk, Want j.session e x h (last x k.cache)) ∷ []) ∙ backs-more j j.clerk (Want j.session e x h (last x k.cache)) refl []

    all-main : main j sent ≡ sent
    all-main = main-more j j.clerk (Claim j.session e []) refl ((j.clerk, Want j.session e x h (last x k.cache)) ∷ []) ∙ ap (λ l. (j.clerk, Claim j.session e []) ∷ l) (main-more j j.clerk (Want j.session e x h (last x k.cache)) refl [])

    abbrev next : Scene
    next = done_by j.clerk wanting rest sc

    messages-are : main j next.mail ≡ messages j next (Claims (Some (x, h)))
    messages-are = filter-both (λ m. not (is_back j m)) rest sent ∙ ap (λ l. l ++ main j sent) main-rest ∙ all-main ∙ ap (λ n. (j.clerk, Claim j.session e []) ∷ (j.clerk, Want j.session e x h n) ∷ []) no-last-yet

    in-want : HasTask j.task wanting.clerk → T (member x j.touched) → InPhase j next (Claims (Some (x, h)))
    in-want task touched = own-comes j sc (Opens age) (Claims (Some (x, h))) q tt tt wanting rest messages-are (
      q.facts.0,
      record {
        slot = sl;
        clerk = wanting.clerk;
        working = working wanting refl refl start.new.owed start.new.recalls start.new.cache none-back;
        task = task;
        asking = start.new.asking;
        batches = no-batches;
        window = window;
        grants = grants;
        aged = aged wanting refl refl start.new.owed start.new.recalls start.new.cache none-back;
        touched = touched;
        number = no-last-yet;
        below = subst T (sym below) tt;
        earlier = k.wanted;
        wants = refl;
        answered = subst (Each _) (sym start.new.wanted) tt;
      },
    )

    wants-comes : HasTask j.task wanting.clerk → T (member x j.touched) → Comes (delivered j.clerk opened rest sc)
    wants-comes task touched = results wanting (Some (x, h)) settles (in-want task touched) refl none-back

  pub opened-comes : Comes (delivered j.clerk opened rest sc)
  opened-comes = go start.task
    where
      lacking : Lacking j k → Comes (delivered j.clerk opened rest sc)
      lacking l =
          let t : HasTask (Calls l.1) k = subst (λ t. HasTask t k) l.4 l.0 in
          wants-comes l.1 l.2 l.3 l.4 t.0 t.1 t.2 t.4 l.5 (subst (λ t. HasTask t (send_want l.2 l.3 claimed).clerk) (sym l.4) t) l.6

      go : NothingWaits k ⊎ Lacking j k → Comes (delivered j.clerk opened rest sc)
      go (inl done) = results claimed None (ends done) (in-claims done) refl claim-alone
      go (inr l) = lacking l
