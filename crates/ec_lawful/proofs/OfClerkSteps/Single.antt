-- A step under way stands with all that its tries read, once an answer came out.
use Rattle.std.proofs.Common.{◌≡◌, refl, sym, ap, subst, ◌∙◌, inl, inr, ◌⊎◌, ℕ, false, T, List, [], ◌∷◌, ◌++◌, Option, Some, None, append_assoc, append-nil}
use Rattle.std.specs.Prelude.{◌+◌, if◌then◌else◌, is_some}
use Rattle.ec_volume.specs.declared.update.Update.{Update}
use Rattle.ec_plain.specs.declared.call.Outcome.{Outcome}
use Rattle.ec_history.specs.History.{Each, Op}
use Rattle.ec_history.specs.declared.entry.Answer.{Answer}
use Rattle.ec_history.specs.declared.shown.Shown.TheVariants.{Answered}
use Rattle.ec_cache.specs.OfReport.Report.{Owed}
use Rattle.ec_cache.specs.declared.resolve.verdict.Verdict.{Verdict}
use Rattle.ec_cache.specs.declared.resolve.verdict.Verdict.TheVariants.{Need, Lost, NeedIds, Done}
use Rattle.ec_protocol.specs.Clerk.{Doing, less_id, suits, verdict}
use Rattle.ec_protocol.specs.declared.clerk.Clerk.{Clerk}
use Rattle.ec_protocol.specs.declared.clerk.Waiting.{Waiting}
use Rattle.ec_coherence.specs.System.{System, Ghost}
use Rattle.ec_coherence.specs.Events.{EventsAgree}
use Rattle.ec_coherence.specs.Steps.{call_of, doing_in}
use Rattle.ec_coherence.proofs.ForBatches.ClerkIn.{start-same}
use Rattle.ec_coherence.specs.CommitLaws.{AllAgree}
use Rattle.ec_coherence.specs.StandLaws.{ClerkStands}
use Rattle.ec_lawful.specs.OfClerkSteps.Calls.{CallsAgree, StartCalls}
use Rattle.ec_lawful.specs.OfClerkSteps.CallLaws.{IsWaiting}
use Rattle.ec_lawful.specs.OfClerkSteps.Waits.{HasLine, does_wait}
use Rattle.ec_lawful.proofs.OfClerkSteps.ForCalls.CallsLeft.{left-calls, left-lines}
use Rattle.ec_lawful.specs.OfClerkSteps.Names.{NamesAgree}
use Rattle.ec_lawful.specs.OfClerkSteps.Cuts.{CutsAgree}
use Rattle.ec_coherence.specs.Answers.{Gives, op_given}
use Rattle.ec_lawful.specs.OfClerkSteps.Answering.{Suits, answered_clerk, done_clerk}
use Rattle.ec_lawful.specs.OfClerkSteps.Frees.{FreesAgree}
use Rattle.ec_lawful.specs.OfClerkSteps.Trying.{IsTrying}
use Rattle.ec_lawful.specs.OfClerkSteps.Zeros.{ZerosAgree}
use Rattle.ec_lawful.proofs.OfClerkSteps.Clerked.{IsKept, answered-kept}
use Rattle.ec_lawful.proofs.OfClerkSteps.Target as target
use Rattle.ec_lawful.proofs.OfClerkSteps.Turned.{next-is, same-session}

-- Lists.

tail-is : {A : Type 0} (x y : A) (xs ys : List A) → x ∷ xs ≡ y ∷ ys → (x ≡ y) × (xs ≡ ys)
tail-is x y xs ys e = (cc, cc)

no-cons : {A B : Type 0} (x : A) (xs : List A) → [] ≡ x ∷ xs → B
no-cons {A} {B} x xs e = absurd (apart e)
  where
    apart : [] ≡ x ∷ xs → ⊥
    apart e = cc

-- the one that is split off is the last, or one of those before it
last-or : {A : Type 0} (xs ys zs : List A) (x z : A) → xs ++ x ∷ ys ≡ zs ++ z ∷ [] → ((xs ≡ zs) × (ys ≡ [])) ⊎ ((ms : List A) × (zs ≡ xs ++ x ∷ ms))
last-or [] ys [] x z e = inl (refl, (tail-is x z ys [] e).1)
last-or [] ys (w ∷ zs) x z e = inr (zs, ap (λ v. v ∷ zs) (sym (tail-is x w ys (zs ++ z ∷ []) e).0))
last-or (w ∷ xs) ys [] x z e = go xs (tail-is w z (xs ++ x ∷ ys) [] e).1
  where
    go : (vs : List _) → vs ++ x ∷ ys ≡ [] → ((w ∷ xs ≡ []) × (ys ≡ [])) ⊎ ((ms : List _) × ([] ≡ (w ∷ xs) ++ x ∷ ms))
    go [] f = no-cons x ys (sym f)
    go (v ∷ vs) f = no-cons v (vs ++ x ∷ ys) (sym f)
last-or (w ∷ xs) ys (v ∷ zs) x z e =
    let p = tail-is w v (xs ++ x ∷ ys) (zs ++ z ∷ []) e in
    elim (last-or xs ys zs x z p.1) [
      | inl r ↦ inl (ap (λ u. w ∷ u) r.0 ∙ ap (λ u. u ∷ zs) p.0, r.1)
      | inr r ↦ inr (r.0, ap (λ u. u ∷ zs) (sym p.0) ∙ ap (λ u. w ∷ u) r.1)
    ]

pub each-mid : {A : Type 0} (P : A → Type 0) (xs ys : List A) (y : A) → Each P (xs ++ y ∷ ys) → P y × Each P (xs ++ ys)
each-mid P [] ys y h = (h.0, h.1)
each-mid P (x ∷ xs) ys y h = let r = each-mid P xs ys y h.1 in (r.0, (h.0, r.1))

each-first : {A : Type 0} (P Q : A → Type 0) (xs : List A) → Each (λ x. P x × Q x) xs → Each Q xs
each-first P Q [] h = tt
each-first P Q (x ∷ xs) h = (h.0.1, each-first P Q xs h.1)

-- What the answer's operation is: none, or that of an update that suits.
pub record IsIssued (k now : Clerk) (c b p : ℕ) (v : Verdict) (os : List Op) : Type 0 where
  pub outcome : Outcome
  pub update : Update
  pub done : v ≡ Done outcome
  pub updates : outcome.update ≡ Some update
  pub fits : T (suits update k.cache)
  pub op : os ≡ record { clerk = c; boot = b; number = k.log.next; place = p; update = update } ∷ []
  pub left : now.ids ≡ less_id update k.ids
  pub log : now.log ≡ Rattle.ec_log.specs.Log.issue update k.log

module _ (k : Clerk) (c b p : ℕ) where
  by-update : (o : Outcome) (u : Option Update) → o.update ≡ u → Suits (Done o) k
      → ((elim u as (λ z. List Op) [ None ↦ [] | Some w ↦ record { clerk = c; boot = b; number = k.log.next; place = p; update = w } ∷ [] ] ≡ []) × ((done_clerk o u k).log ≡ k.log))
      ⊎ IsIssued k (done_clerk o u k) c b p (Done o) (elim u as (λ z. List Op) [ None ↦ [] | Some w ↦ record { clerk = c; boot = b; number = k.log.next; place = p; update = w } ∷ [] ])
  by-update o None q f = inl (refl, refl)
  by-update o (Some u) q f = inr (record { outcome = o; update = u; done = refl; updates = q; fits = f u q; op = refl; left = refl; log = refl })

  pub issued-or : (v : Verdict) → Suits v k → ((op_given c b p k v ≡ []) × ((answered_clerk v k).log ≡ k.log)) ⊎ IsIssued k (answered_clerk v k) c b p v (op_given c b p k v)
  issued-or (Need x h) f = inl (refl, refl)
  issued-or (Lost ns xs) f = inl (refl, refl)
  issued-or (NeedIds xs) f = inl (refl, refl)
  issued-or (Done o) f = by-update o o.update refl f

-- Other waiting calls change nothing of what it gives.
module _ (most : ℕ) (k : Clerk) (ws : List Waiting) where
  pub gives-same : (v : Verdict) (a : Answer) (op : Option ℕ) (rest : Owed) → Gives most (record k { waiting = ws }) v a op rest → Gives most k v a op rest
  gives-same (Need x h) a op rest q = q
  gives-same (Lost ns xs) a op rest q = q
  gives-same (NeedIds xs) a op rest q = q
  gives-same (Done o) a op rest q = q

module _ (g : System) (c b : ℕ) (d : Doing) (γ : Ghost) (t : IsTrying g c b d γ) (before rest : List Waiting) (w : Waiting) (split : d.clerk.waiting ≡ before ++ w ∷ rest) where
  abbrev pub here : System
  here = doing_in c b d γ g

  abbrev pub left : Clerk
  left = record (d.clerk) { waiting = before ++ rest }

  abbrev pub v : Verdict
  v = verdict w.call left

  abbrev pub now : Clerk
  now = answered_clerk v left

  pub all : AllAgree here
  all = (((t.stands).0).invariant, (t.stands).1, (t.stands).2, (t.stands).3)

  pub running : here.running c ≡ Some b
  running = ((t.stands).0).runs

  pub at-start : here.clerks c b ≡ Some d.clerk
  at-start = start-same c b d.clerk g.clerks

  pub calls-of : StartCalls here c b d.clerk
  calls-of = (t.calls).starts c b d.clerk running at-start

  -- its line
  pub lined : (l : ℕ) × (call_of c w.no here.calls ≡ Some (l, w.call))
  lined = let f = (each-mid (λ x. (l : ℕ) × (call_of c x.no here.calls ≡ Some (l, x.call)) × Rattle.ec_lawful.specs.OfClerkSteps.Calls.Began here c b d.clerk x l) before rest w
      (subst (Each (λ x. (l : ℕ) × (call_of c x.no here.calls ≡ Some (l, x.call)) × Rattle.ec_lawful.specs.OfClerkSteps.Calls.Began here c b d.clerk x l)) split calls-of.lined)).0 in (f.0, f.1)

  abbrev pub l : ℕ
  l = lined.0

  pub line : call_of c w.no here.calls ≡ Some (l, w.call)
  line = lined.1

  pub waits-at : IsWaiting here c b d.clerk w l
  waits-at = record { running = running; stands = at-start; before = before; after = rest; waits = split; line = line }

  -- where it doesn't wait, all others have their lines
  pub lines-left : does_wait w d.clerk ≡ false → Each (HasLine here c) (before ++ rest)
  lines-left n = elim t.turn [
    | inl f ↦ (each-mid (HasLine here c) before rest w (subst (Each (HasLine here c)) split f)).1
    | inr f ↦ by f.0 f.1 f.2 f.3 (last-or before rest f.0 w f.1 (sym split ∙ f.2))
  ]
    where
      by : (earlier : List Waiting) (z : Waiting) → d.clerk.waiting ≡ earlier ++ z ∷ [] → Each (λ x. T (does_wait x d.clerk) × HasLine here c x) earlier
          → ((before ≡ earlier) × (rest ≡ [])) ⊎ ((ms : List Waiting) × (earlier ≡ before ++ w ∷ ms)) → Each (HasLine here c) (before ++ rest)
      by earlier z e f (inl r) = subst (λ x. Each (HasLine here c) (before ++ x)) (sym r.1) (subst (Each (HasLine here c)) (sym (append-nil before)) (subst (Each (HasLine here c)) (sym r.0) (each-first (λ x. T (does_wait x d.clerk)) (HasLine here c) earlier f)))
      by earlier z e f (inr r) = absurd (subst T n ((each-mid (λ x. T (does_wait x d.clerk) × HasLine here c x) before r.0 w (subst (Each (λ x. T (does_wait x d.clerk) × HasLine here c x)) r.1 f)).0).0)

  module _ (a : Answer) (op : Option ℕ) (gives : Gives here.durable.max_objects left v a op now.owed) (suit : Suits v left) (lines : Each (HasLine here c) (before ++ rest)) (δ : Ghost) where
    abbrev pub behind : System
    behind = target.target g c b d γ w.no l w.call a op now δ

    abbrev pub next : Doing
    next = target.next g c b d γ w.no l w.call a op now δ

    pub kept : IsKept left now
    kept = answered-kept left v suit

    path : behind ≡ doing_in c b next δ g
    path = target.target-is g c b d γ w.no l w.call a op now δ line

    -- Calls and their lines.
    module _ (shown : δ.shown ≡ γ.shown ++ Answered l c w.call a op ∷ []) (ev2 : EventsAgree behind) where
      left-is : now.waiting ≡ before ++ rest
      left-is = kept.waiting

      same-next : op ≡ None → now.log.next ≡ d.clerk.log.next
      same-next n = next-is here.durable.max_objects left a op now.owed v gives ∙ ap (λ z. if is_some z then d.clerk.log.next + 1 else d.clerk.log.next) n

      calls-now : CallsAgree behind
      calls-now = left-calls here (all.0).events c b d.clerk now running at-start before rest w l split line here.pool δ a op shown ev2 left-is kept.calls kept.first same-next (kept.from calls-of.own calls-of.begun) (kept.begun calls-of.begun) (inr lines) t.calls

      lines-now : Each (HasLine behind c) now.waiting
      lines-now = subst (Each (HasLine behind c)) (sym left-is) (left-lines here (all.0).events c b d.clerk now running at-start before rest w l split line here.pool δ a op shown ev2 left-is kept.calls kept.first same-next
          (kept.from calls-of.own calls-of.begun) (kept.begun calls-of.begun) (inr lines) t.calls lines)

    -- the others have theirs still
    pub lines-on : δ.shown ≡ γ.shown ++ Answered l c w.call a op ∷ [] → IsTrying g c b next δ → Each (HasLine (doing_in c b next δ g) c) now.waiting
    lines-on shown t2 = subst (λ h. Each (HasLine h c) now.waiting) path (lines-now shown (subst EventsAgree (sym path) (((t2.stands).0).invariant).events))

    -- All of it.
    module _ (shown : δ.shown ≡ γ.shown ++ Answered l c w.call a op ∷ []) (owner : δ.owner ≡ γ.owner) (all2 : AllAgree behind) (zeros : ZerosAgree behind) (frees : FreesAgree behind) (names : NamesAgree behind) (cuts : CutsAgree behind) where
      stands-now : ClerkStands g c b next δ
      stands-now =
          let z = subst AllAgree path all2 in (
            record {
              runs = ((t.stands).0).runs;
              shown = shown ∙ ap (λ x. x ++ Answered l c w.call a op ∷ []) ((t.stands).0).shown ∙ append_assoc g.ghost.shown (Rattle.ec_coherence.specs.Steps.out_lines c d.outs g.calls) (Answered l c w.call a op ∷ [])
                  ∙ ap (λ x. g.ghost.shown ++ x) (sym (target.lines-are g c b d γ w.no l w.call a op now δ line));
              invariant = z.0;
            },
            z.1,
            z.2,
            z.3,
          )

      pub tries-on : IsTrying g c b next δ
      tries-on = record {
        stands = stands-now;
        place = elim t.place [
          | inl n ↦ inl (same-session left v ∙ n)
          | inr u ↦ inr (u.0, record { stands = stands-now; age = (u.1).age; owns = ap (λ f. f u.0) owner ∙ (u.1).owns; boot = (u.1).boot; session = same-session left v ∙ (u.1).session; before = (u.1).before })
        ];
        calls = subst CallsAgree path (calls-now shown (all2.0).events);
        turn = inl (subst (λ h. Each (HasLine h c) now.waiting) path (lines-now shown (all2.0).events));
        orderly = kept.orderly (record { keyed = (t.orderly).keyed; recalls = (t.orderly).recalls; asking = (t.orderly).asking; log = (t.orderly).log; sound = (t.orderly).sound; batches = (t.orderly).batches });
        names = subst NamesAgree path names;
        zeros = subst ZerosAgree path zeros;
        frees = subst FreesAgree path frees;
        cuts = subst CutsAgree path cuts;
      }
