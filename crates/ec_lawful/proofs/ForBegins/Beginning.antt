-- A step of a running clerk begins with all facts.
use Rattle.std.proofs.Common.{◌≡◌, refl, sym, ap, subst, ◌∙◌, inl, inr, ◌⊎◌, ℕ, Bool, true, false, ◌==◌, ◌&&◌, T, [], ◌∷◌, ◌++◌, append-nil}
use Rattle.std.specs.Prelude.{Option, None, Some}
use Rattle.std.proofs.lemmas.Bool.{and_parts}
use Rattle.ec_history.specs.History.{Each}
use Rattle.ec_protocol.specs.Clerk.{Doing, doing, keep_push}
use Rattle.ec_protocol.specs.declared.clerk.Clerk.{Clerk}
use Rattle.ec_coherence.specs.System.{System, with_start}
use Rattle.ec_coherence.specs.Steps.{doing_in}
use Rattle.ec_coherence.proofs.ForServer.Lists.{each-turn}
use Rattle.ec_coherence.specs.CommitLaws.{AllAgree}
use Rattle.ec_coherence.proofs.Doings.{begins-stand}
use Rattle.ec_coherence.specs.StandLaws.{ClerkStands, IsUnderWay}
use Rattle.ec_lawful.specs.OfClerkSteps.Names.{NamesAgree}
use Rattle.ec_lawful.specs.OfClerkSteps.Zeros.{ZerosAgree}
use Rattle.ec_lawful.specs.OfClerkSteps.Frees.{FreesAgree}
use Rattle.ec_lawful.specs.OfClerkSteps.Cuts.{CutsAgree}
use Rattle.ec_lawful.specs.OfClerkSteps.Waits.{HasLine, does_wait}
use Rattle.ec_lawful.proofs.OfClerkSteps.ForCalls.Quiet.{begins-step, quiet-calls, quiet-lines}
use Rattle.ec_lawful.proofs.OfClerkSteps.ForCalls.Quiets.{quiet-pushed}
use Rattle.ec_lawful.proofs.OfClerkSteps.ForJoins.Calm.{are-calm}
use Rattle.ec_lawful.proofs.OfClerkSteps.ForJoins.Going.{calm-keeps}
use Rattle.ec_lawful.proofs.OfClerkSteps.ForJoins.OutsideChanges.{outside-all}
use Rattle.ec_lawful.proofs.OfClerkSteps.ForDoings.Calling as calling
use Rattle.ec_lawful.proofs.OfClerkSteps.ForDoings.Calling.{order-stays}
use Rattle.ec_lawful.proofs.OfClerkSteps.ForDoings.Pushes.{keeps-push}
use Rattle.ec_lawful.proofs.OfClerkSteps.ForNames.NamesChanging.{clerks-keep}
use Rattle.ec_lawful.proofs.OfClerkSteps.ForDoings.FreesStored.{stills-keep}
use Rattle.ec_lawful.proofs.OfClerkSteps.ForNames.ZerosBehind.{steps-keep}
use Rattle.ec_lawful.proofs.OfClerkSteps.ForNames.Parts.{have-no-zero}
use Rattle.ec_lawful.specs.Whole.{ShowsAll, Whole}
use Rattle.ec_lawful.specs.SettleLaws.{IsLined}
use Rattle.ec_lawful.proofs.ForBegins.Carrying.{no-zero, same-shows, still-lined}
use Rattle.ec_base.proofs.Numbers.{equal}

module _ (g : System) (whole : Whole g) (c b : ℕ) (k : Clerk) (runs : g.running c ≡ Some b) (there : g.clerks c b ≡ Some k) where
  abbrev here : System
  here = doing_in c b (doing k) g.ghost g

  -- nothing is different yet
  same-clerks : with_start c b k g.clerks ≡ g.clerks
  same-clerks = λ j x y. point ((x == c) && (y == b)) x y refl j
    where
      point : (z : Bool) (x y : ℕ) → ((x == c) && (y == b)) ≡ z → elim z as (λ o. Option Clerk) [ true ↦ Some k | false ↦ g.clerks x y ] ≡ g.clerks x y
      point true x y e = let two = and_parts (x == c) (y == b) e in sym (ap (λ z. g.clerks z y) (equal x c two.0) ∙ ap (g.clerks c) (equal y b two.1) ∙ there)
      point false x y e = refl

  path : here ≡ g
  path = ap (λ f. record g { clerks = f; pool = g.pool ++ [] }) same-clerks ∙ ap (λ p. record g { pool = p }) (append-nil g.pool)

  brought : (F : System → Type 0) → F g → F here
  brought F f = subst F (sym path) f

  begun-lines : Each (HasLine here c) k.waiting
  begun-lines = each-turn (λ w. T (does_wait w k) × HasLine g c w) (HasLine here c) k.waiting (λ w q. brought (λ h. HasLine h c w) q.1) (whole.rest c b k runs there).calls

  pub begins : IsLined g c b (doing k) g.ghost
  begins = record {
    trying = record {
      stands = begins-stand g whole.all c b k runs there;
      place = by k.session refl;
      calls = begins-step g c b k there whole.calls;
      turn = inl begun-lines;
      orderly = (whole.orderly).each c b k there;
      names = brought NamesAgree whole.names;
      zeros = brought ZerosAgree whole.zeros;
      frees = brought FreesAgree whole.frees;
      cuts = brought CutsAgree whole.cuts;
    };
    lines = begun-lines;
    shows = brought ShowsAll whole.shows;
  }
    where
      by : (o : Option ℕ) → k.session ≡ o → (k.session ≡ None) ⊎ ((s : ℕ) × IsUnderWay g c b s (doing k) g.ghost)
      by None p = inl p
      by (Some s) p = inr (s, (calling.begins g whole.all whole.orderly whole.names c b s k runs there p).under_way)

  -- an operation is pushed

  module _ (n : ℕ) where
    abbrev now : Clerk
    now = record k { pushes = k.pushes ++ n ∷ [] }

    abbrev e : Doing
    e = keep_push n (doing k)

    inside : (s : ℕ) → k.session ≡ Some s → IsLined g c b e g.ghost
    inside s p =
        let t = begins.trying in
        still-lined g c b s (doing k) e g.ghost t (keeps-push g c b s g.ghost n (doing k) (calling.begins g whole.all whole.orderly whole.names c b s k runs there p)) (quiet-pushed n (doing k))
        (have-no-zero.same (doing k) e (have-no-zero.pushed n (doing k)) (no-zero g c b (doing k) g.ghost t))
        (stills-keep g c b (doing k) g.ghost t.frees e g.ghost refl refl refl refl refl (inl (refl, refl, refl)))
        (calm-keeps g c b (doing k) e g.ghost (are-calm.rest (doing k) e refl refl) t.cuts) begins.lines begins.shows (refl, refl, refl)

    outside-now : k.session ≡ None → AllAgree (doing_in c b e g.ghost g)
    outside-now none = outside-all g whole.all c b k now there none (record { id = refl; age = refl; session = refl; owed = refl; next = refl }) refl refl refl refl g.calls [] tt tt tt

    outside-stands : k.session ≡ None → ClerkStands g c b e g.ghost
    outside-stands none =
        let all = outside-now none in
        (record { runs = runs; shown = sym (append-nil g.ghost.shown); invariant = all.0 }, all.1, all.2, all.3)

    outside : k.session ≡ None → IsLined g c b e g.ghost
    outside none =
        let t = begins.trying in
        let q = quiet-pushed n (doing k) in
        let lines : Each (HasLine (doing_in c b e g.ghost g) c) e.clerk.waiting = quiet-lines g c b (doing k) e g.ghost q begins.lines in
        record {
          trying = record {
            stands = outside-stands none;
            place = inl none;
            calls = quiet-calls g c b (doing k) e g.ghost q t.calls;
            turn = inl lines;
            orderly = order-stays.keep_push n (doing k) t.orderly;
            names = clerks-keep g whole.names c b now (inl (k, there, refl, refl, λ x m. m)) g.running g.boots g.calls (g.pool ++ []) g.ghost refl refl refl (whole.names).kept (whole.names).frozen;
            zeros = steps-keep g c b (doing k) e g.ghost g.ghost (record { origin = refl; kept = refl; frozen = refl; next_id = refl; grants = refl; first = refl }) (have-no-zero.same (doing k) e (have-no-zero.pushed n (doing k)) (no-zero g c b (doing k) g.ghost t)) t.zeros;
            frees = stills-keep g c b (doing k) g.ghost t.frees e g.ghost refl refl refl refl refl (inl (refl, refl, refl));
            cuts = calm-keeps g c b (doing k) e g.ghost (are-calm.rest (doing k) e refl refl) t.cuts;
          };
          lines = lines;
          shows = same-shows g c b (doing k) e g.ghost t (outside-now none) (refl, refl, refl) begins.shows;
        }

    pub begins-pushed : IsLined g c b e g.ghost
    begins-pushed = by k.session refl
      where
        by : (o : Option ℕ) → k.session ≡ o → IsLined g c b e g.ghost
        by None p = outside p
        by (Some s) p = inside s p
