-- A call of a running clerk has begun.
use Rattle.std.proofs.Common.{◌≡◌, refl, sym, ap, subst, ◌∙◌, inl, inr, ◌⊎◌, ◌+◌, ◌-◌, ℕ, T, Bool, true, false, [], Option, Some, None, append-nil}
use Rattle.ec_base.specs.Tables.{at_or, put}
use Rattle.ec_plain.specs.BoundedCalls.{is_bounded}
use Rattle.ec_plain.specs.declared.call.Call.{Call}
use Rattle.ec_history.specs.History.{Each}
use Rattle.ec_history.specs.declared.shown.Shown.TheVariants as show
use Rattle.ec_protocol.specs.Clerk.{add_call, doing}
use Rattle.ec_protocol.specs.declared.clerk.Clerk.{Clerk}
use Rattle.ec_protocol.specs.declared.clerk.Waiting.{Waiting}
use Rattle.ec_coherence.specs.System.{System, Ghost, if_in, with_start}
use Rattle.ec_coherence.specs.ChangeLaws.{Calls, with_clerk}
use Rattle.ec_coherence.specs.Steps.{call_of, doing_in}
use Rattle.ec_coherence.proofs.ForBatches.ClerkIn.{not-in-it}
use Rattle.ec_coherence.proofs.ForServer.Tables.{differs}
use Rattle.ec_coherence.specs.CommitLaws.{AllAgree}
use Rattle.ec_coherence.specs.StandLaws.{ClerkStands, SessionGoesOn, IsUnderWay, lined}
use Rattle.ec_coherence.proofs.Rests.{rests-stand}
use Rattle.ec_lawful.specs.OfClerkSteps.Cuts.{CutKnows, CutsAgree}
use Rattle.ec_lawful.proofs.OfClerkSteps.ForJoins.OutsideChanges.{outside-all}
use Rattle.ec_lawful.specs.Steps.{LineIsNew}
use Rattle.ec_lawful.specs.Ties.{called, waiting}
use Rattle.ec_lawful.specs.OfClerkSteps.Calls.{CallsAgree}
use Rattle.ec_lawful.specs.OfClerkSteps.Waits.{AreAtRest, AreInTurn, HasLine}
use Rattle.ec_lawful.specs.OfClerkSteps.CallLaws.{IsNewLine}
use Rattle.ec_lawful.proofs.OfClerkSteps.ForCalls.Begin.{begun-call, begun-calls, begun-lines, begun-turn, fresh-lines}
use Rattle.ec_lawful.proofs.OfClerkSteps.ForCalls.Lined.{lined-all, lined-calls, untold-still}
use Rattle.ec_lawful.proofs.OfClerkSteps.ForCalls.Quiet.{split-start}
use Rattle.ec_lawful.proofs.OfClerkSteps.ForCalls.Shown.{waits-stand}
use Rattle.ec_lawful.specs.BeginLaws.{HasBegun}
use Rattle.ec_base.proofs.Numbers.{other-number}

-- a new line is of no call
pub new-line : (g : System) (l : ℕ) → LineIsNew g l → IsNewLine g l
new-line g l new = record { unshown = new.unshown; unused = λ c n j cl x. other-number j l (new.unused c n j cl x) }

module _ (g : System) (all : AllAgree g) (q : CallsAgree g) (rest : AreAtRest g) (c b : ℕ) (k : Clerk) (run : g.running c ≡ Some b) (there : g.clerks c b ≡ Some k) (l : ℕ) (cl : Call) (new : LineIsNew g l) (bounded : T (is_bounded cl)) where
  abbrev n : ℕ
  n = k.calls + 1

  abbrev now : Clerk
  now = add_call cl k

  abbrev calls : Calls
  calls = put c (put n (l, cl) (at_or [] c g.calls)) g.calls

  abbrev one : System
  one = with_clerk g c b now calls []

  abbrev v : Waiting
  v = record { no = n; call = cl; begun = k.log.next - 1 }

  goes : SessionGoesOn k now
  goes = record { id = refl; age = refl; session = refl; owed = refl; next = refl }

  boot-is : k.age.boot ≡ b
  boot-is = ((all.0).sessions.starts c b k there).1

  one-all : AllAgree one
  one-all = go k.session refl
    where
      go : (o : Option ℕ) → k.session ≡ o → AllAgree one
      go None e = outside-all g all c b k now there e goes refl refl refl refl calls [] tt tt tt
      go (Some s) e = subst (λ z. AllAgree (with_clerk g c z now calls [])) boot-is
          (rests-stand g all c s k.age k now (record { start = record { owns = ((all.0).sessions.in_session c b s k there e).0; stands = ap (g.clerks c) boot-is ∙ there }; session = e }) goes refl refl refl calls [] tt tt tt)

  one-calls : CallsAgree one
  one-calls = subst (λ p. CallsAgree (record g { clerks = with_start c b now g.clerks; calls = calls; pool = p })) (sym (append-nil g.pool)) (begun-calls g (all.0).events c b l cl k run there (new-line g l new) bounded q)

  own-call : call_of c n one.calls ≡ Some (l, cl)
  own-call = begun-call g (all.0).events c b l cl k run there (new-line g l new) bounded q

  one-lines : Each (HasLine one c) k.waiting
  one-lines = subst (λ p. Each (HasLine (record g { clerks = with_start c b now g.clerks; calls = calls; pool = p }) c) k.waiting) (sym (append-nil g.pool)) (begun-lines g (all.0).events c b l cl k run there (new-line g l new) bounded q rest)

  one-turn : AreInTurn one c now
  one-turn = subst (λ p. AreInTurn (record g { clerks = with_start c b now g.clerks; calls = calls; pool = p }) c now) (sym (append-nil g.pool)) (begun-turn g (all.0).events c b l cl k run there (new-line g l new) bounded q rest)

  -- the clerk's place
  in-place : (h : System) (γ : Ghost) → ((s : ℕ) → γ.owner s ≡ g.ghost.owner s) → h.clerks c b ≡ Some k → ClerkStands h c b (doing now) γ → (k.session ≡ None) ⊎ ((s : ℕ) × IsUnderWay h c b s (doing now) γ)
  in-place h γ same at st = go k.session refl
    where
      go : (o : Option ℕ) → k.session ≡ o → (k.session ≡ None) ⊎ ((s : ℕ) × IsUnderWay h c b s (doing now) γ)
      go None e = inl e
      go (Some s) e = inr (
        s,
        record {
          stands = st;
          age = k.age;
          owns = same s ∙ ((all.0).sessions.in_session c b s k there e).0;
          boot = boot-is;
          session = e;
          before = λ t d. ap (if_in t) at ∙ not-in-it c b s k e t (differs t s d);
        },
      )

  pub has-begun : (z : Bool) → let h = waiting c l cl z (called c n l cl g) in HasBegun h c b (doing now) h.ghost
  has-begun true =
      let st : ClerkStands (called c n l cl g) c b (doing now) g.ghost = (record { runs = run; shown = sym (append-nil g.ghost.shown); invariant = one-all.0 }, one-all.1, one-all.2, one-all.3) in
      record { stands = st; place = in-place (called c n l cl g) g.ghost (λ s. refl) there st; calls = one-calls; turn = one-turn }
  has-begun false =
      let h : System = lined (called c n l cl g) (show.Waits l c cl) in
      let two : AllAgree (lined one (show.Waits l c cl)) = waits-stand one one-all c b l cl run (fresh-lines l c cl g.ghost.shown new.unshown).0 in
      let st : ClerkStands h c b (doing now) h.ghost = (record { runs = run; shown = sym (append-nil h.ghost.shown); invariant = two.0 }, two.1, two.2, two.3) in
      record {
        stands = st;
        place = in-place h h.ghost (λ s. refl) there st;
        calls = lined-calls one (one-all.0).events c n l cl own-call one-calls;
        turn = inl (lined-all one (one-all.0).events c n l cl own-call now k.waiting v refl refl refl one-lines);
      }

  -- cut-off starts know what they did
  pub begun-cuts : (z : Bool) → let h = waiting c l cl z (called c n l cl g) in CutsAgree g → CutsAgree (doing_in c b (doing now) h.ghost h)
  begun-cuts true q' f a s m ks r p o fz = split-start c b f a m now g.clerks (λ x y z. g.running x ≡ Some y → g.ghost.owner s ≡ Some (x, z.age) → CutKnows one x s z ks) p
      (λ i u. let z = q' c b s k ks i there u fz in record { knows = z.knows; untold = z.untold })
      (λ d i j u. let z = q' f a s m ks j i u fz in record { knows = z.knows; untold = z.untold }) r o
  begun-cuts false q' f a s m ks r p o fz = split-start c b f a m now g.clerks (λ x y z. g.running x ≡ Some y → g.ghost.owner s ≡ Some (x, z.age) → CutKnows (lined one (show.Waits l c cl)) x s z ks) p
      (λ i u. let z = q' c b s k ks i there u fz in record { knows = z.knows; untold = untold-still one (one-all.0).events c n l cl own-call c ∙ z.untold })
      (λ d i j u. let z = q' f a s m ks j i u fz in record { knows = z.knows; untold = untold-still one (one-all.0).events c n l cl own-call f ∙ z.untold }) r o
