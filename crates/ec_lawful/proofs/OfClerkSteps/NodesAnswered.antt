-- Tokens, logs and images behind an answer of a clerk in its session, without an operation and with one.
use Rattle.std.proofs.Common.{◌≡◌, refl, sym, ap, subst, ◌∙◌, inl, inr, ℕ, T, List, [], ◌∷◌, ◌++◌, Option, Some, None, append-nil}
use Rattle.std.specs.Prelude.{is_some}
use Rattle.ec_base.specs.Tables.{Table, at}
use Rattle.ec_base.specs.declared.ids.Age.{Age}
use Rattle.ec_volume.specs.Update.{has_operand, operands}
use Rattle.ec_volume.specs.declared.update.Update.{Update}
use Rattle.ec_history.specs.History.{History, Op}
use Rattle.ec_history.specs.declared.entry.Answer.{Answer}
use Rattle.ec_history.specs.declared.shown.Shown.{Shown}
use Rattle.ec_sessions.specs.declared.slot.Slot.{Slot}
use Rattle.ec_cache.specs.Cache as cache
use Rattle.ec_durable.specs.Durable.{made, slot}
use Rattle.ec_cache.specs.OfReport.Report.{Owed}
use Rattle.ec_protocol.specs.Clerk.{doing, first_id, suits, with_update}
use Rattle.ec_protocol.specs.declared.clerk.Clerk.{Clerk}
use Rattle.ec_coherence.specs.System.{System, Ghost, is_open, is_of, seen, undurable, with_start}
use Rattle.ec_coherence.specs.Tokens.{IsWrite, TokensAgree, view}
use Rattle.ec_coherence.specs.Log.{LogsAgree}
use Rattle.ec_coherence.specs.Images.{ImagesAgree}
use Rattle.ec_coherence.specs.Steps.{doing_in}
use Rattle.ec_coherence.specs.ChangeLaws.{Calls, IsInIt, with_answer}
use Rattle.ec_coherence.proofs.ForClerk.Acting.{IsIn}
use Rattle.ec_coherence.proofs.ForClerk.Answer.{goes-answer, goes-update, goes-used}
use Rattle.ec_coherence.proofs.ForBatches.Answered as answered
use Rattle.ec_coherence.proofs.ForClerk.CacheChange.{at-used, behind-writes}
use Rattle.ec_coherence.proofs.ForBatches.ClerkIn.{not-in-it}
use Rattle.ec_coherence.proofs.ForClerk.Goes.{Goes, goes-rest}
use Rattle.ec_coherence.proofs.ForBatches.HeldChange as held
use Rattle.ec_coherence.proofs.ForClerk.OnSystem.{begins, ends}
use Rattle.ec_coherence.proofs.ForServer.Tables.{differs}
use Rattle.ec_coherence.proofs.ForClerk.Try.{issued-goes}
use Rattle.ec_coherence.specs.CommitLaws.{AllAgree}
use Rattle.ec_coherence.proofs.Doings.{begins-stand}
use Rattle.ec_lawful.specs.OfClerkSteps.Answering.{answering}
use Rattle.ec_lawful.proofs.OfClerkSteps.Framed.{images-told, logs-told}
use Rattle.ec_lawful.proofs.OfClerkSteps.Live.{owns, stands, there}
use Rattle.ec_base.proofs.Bools.{left as and_first}

-- tokens, logs and images
abbrev pub NodesAgree : System → Type 0
NodesAgree h = TokensAgree (view h) × LogsAgree h × ImagesAgree h

module _ (g : System) (all : AllAgree g) (c s : ℕ) (age : Age) (k : Clerk) (in-it : IsInIt g c s age k) (r : g.running c ≡ Some age.boot) (n : ℕ) (a : Answer) (op : Option ℕ) (sh : List Shown) (hi : History) (fr : Table ℕ) (calls : Calls) where
  abbrev b : ℕ
  b = age.boot

  -- the clerk is this one now, and these operations are kept
  abbrev pub behind : Clerk → List Op → System
  behind now ks = record g { clerks = with_start c b now g.clerks; calls = calls; pool = g.pool ++ []; ghost = record (g.ghost) { kept = ks; shown = sh; history = hi; fresh = fr } }

  is-owner : g.ghost.owner s ≡ Some (c, age)
  is-owner = owns g all c s age k in-it

  at-start : g.clerks c b ≡ Some k
  at-start = stands g all c s age k in-it

  abbrev keeping : List Op → Ghost
  keeping ks = record (g.ghost) { kept = ks }

  is-in : (ks : List Op) → IsIn g (keeping ks) c b s k
  is-in ks = record {
    session = in-it.session;
    age = age;
    owner = is-owner;
    boot = refl;
    before = λ t e. ap (Rattle.ec_coherence.specs.System.if_in t) at-start ∙ not-in-it c b s k in-it.session t (differs t s e);
  }

  began : TokensAgree (view (doing_in c b (doing k) g.ghost g))
  began = (((begins-stand g all c b k r at-start).0).invariant).tokens

  goes : Goes (view (record g { ghost = keeping g.ghost.kept })) c s (doing k) (doing k)
  goes = begins g c b s (doing k) (keeping g.ghost.kept) (is-in g.ghost.kept) began

  -- Without an operation.
  module _ (q : Owed) (xs : List ℕ) where
    abbrev pub used : Clerk
    used = record k { owed = q; cache = cache.all_used xs k.cache }

    used-tokens : TokensAgree (view (behind used g.ghost.kept))
    used-tokens =
        let w = view (record g { ghost = keeping g.ghost.kept }) in
        let e1 = record (doing k) { clerk = record k { owed = q } } in
        let g1 : Goes w c s (doing k) e1 = goes-rest w c s (doing k) (doing k) goes (record k { owed = q }) refl refl in
        let e2 = record e1 { clerk = used } in
        let g2 : Goes w c s (doing k) e2 = goes-used w c s (doing k) e1 g1 xs in
        ends g c b s (doing k) (keeping g.ghost.kept) (is-in g.ghost.kept) (answering used n a op) (goes-answer w c s (doing k) e2 g2 n a op)

    may : held.Holds g (all.0).tokens (all.0).logs (all.0).images c s age k used is-owner at-start in-it.session in-it.session refl calls []
    may = record {
      writes = λ o d w f. Rattle.ec_coherence.proofs.ForServer.Tables.each-map (λ x. IsWrite (at x k.cache.held)) (λ x. IsWrite (at x used.cache.held)) (operands o.update) (λ x z. subst IsWrite (sym (at-used xs x k.cache)) z) f;
      ids = λ j sl p q r f. record { granted = f.granted; last = f.last; distinct_ids = f.distinct_ids; free = f.free; earlier = f.earlier; all = f.all };
      rooms = λ e got j sl p q r a b i. i;
      got = λ j sl p q r a. a;
      images = λ x o e. ((all.0).images).licences s x k (there g all c s age k in-it) o (sym (at-used xs x k.cache) ∙ e);
      messages = tt;
    }

    used-same : NodesAgree (behind used g.ghost.kept)
    used-same = (
      used-tokens,
      logs-told (held.h g (all.0).tokens (all.0).logs (all.0).images c s age k used is-owner at-start in-it.session in-it.session refl calls []) sh hi fr
          (held.held-logs g (all.0).tokens (all.0).logs (all.0).images c s age k used is-owner at-start in-it.session in-it.session refl calls [] may),
      images-told (held.h g (all.0).tokens (all.0).logs (all.0).images c s age k used is-owner at-start in-it.session in-it.session refl calls []) sh hi fr
          (held.held-images g (all.0).tokens (all.0).logs (all.0).images c s age k used is-owner at-start in-it.session in-it.session refl calls [] may),
    )

    pub used-nodes : NodesAgree (behind used (g.ghost.kept ++ []))
    used-nodes = subst (λ ks. NodesAgree (behind used ks)) (sym (append-nil g.ghost.kept)) used-same

  -- With one.
  module _ (sl : Slot) (here : slot g.durable c ≡ Some sl) (of : sl.session ≡ s) (opened : T sl.is_open) (its-open : T (is_open g s)) (u : Update) (xs : List ℕ) (place : ℕ)
      (fits : T (suits u k.cache)) (writes : (x : ℕ) → T (has_operand x u) → IsWrite (at x k.cache.held)) (fresh : (x : ℕ) → made u ≡ Some x → first_id k.ids ≡ Some x) where
    abbrev pub new_op : Op
    new_op = record { clerk = c; boot = b; number = k.log.next; place = place; update = u }

    abbrev kept-now : List Op
    kept-now = g.ghost.kept ++ new_op ∷ []

    opens : (t : ℕ) → g.ghost.frozen t ≡ None → T (g.ghost.taken t) → T ((view g).is_open t)
    opens t f i = elim (((all.0).images).cut_off t (((all.0).sessions).taken t i)) [ inl o ↦ o | inr z ↦ absurd (subst (λ y. T (is_some y)) f z) ]

    issued-tokens : TokensAgree (view (behind (with_answer u xs k) kept-now))
    issued-tokens =
        let w = view (record g { ghost = keeping g.ghost.kept }) in
        let v = view (record g { ghost = keeping kept-now }) in
        let e1 = record (doing k) { clerk = with_update u k } in
        let g1 : Goes w c s (doing k) e1 = goes-update w c s (doing k) (doing k) goes u in
        let g2 : Goes v c s (doing k) e1 = issued-goes g c s (doing k) e1 (keeping g.ghost.kept) new_op g1 its-open opens (λ x m. behind-writes u [] k.cache (and_first _ _ fits) x (writes x (subst T (sym m) tt))) in
        let e2 = record e1 { clerk = with_answer u xs k } in
        let g3 : Goes v c s (doing k) e2 = goes-used v c s (doing k) e1 g2 xs in
        ends g c b s (doing k) (keeping kept-now) (is-in kept-now) (answering (with_answer u xs k) n a op) (goes-answer v c s (doing k) e2 g3 n a op)

    pub issued-nodes : NodesAgree (behind (with_answer u xs k) kept-now)
    issued-nodes = (
      issued-tokens,
      logs-told (record g { clerks = with_start c b (with_answer u xs k) g.clerks; calls = calls; pool = g.pool ++ []; ghost = keeping kept-now }) sh hi fr (subst (λ p. LogsAgree (record g { clerks = with_start c b (with_answer u xs k) g.clerks; calls = calls; pool = p; ghost = keeping kept-now })) (sym (append-nil g.pool))
          (answered.answer-logs g (all.0).sessions (all.0).tokens (all.0).logs (all.0).images c s age k is-owner at-start in-it.session sl here of opened u xs place calls fits writes fresh)),
      images-told (record g { clerks = with_start c b (with_answer u xs k) g.clerks; calls = calls; pool = g.pool ++ []; ghost = keeping kept-now }) sh hi fr (subst (λ p. ImagesAgree (record g { clerks = with_start c b (with_answer u xs k) g.clerks; calls = calls; pool = p; ghost = keeping kept-now })) (sym (append-nil g.pool))
          (answered.answer-images g (all.0).sessions (all.0).tokens (all.0).logs (all.0).images c s age k is-owner at-start in-it.session sl here of opened u xs place calls fits writes fresh)),
    )
