-- A clerk takes a message that answers no call, in a session or without one.
use Rattle.std.proofs.Common.{◌≡◌, refl, inl, inr, ◌⊎◌, ℕ, T, Option, Some, None}
use Rattle.std.specs.Prelude.{Contains, is_some}
use Rattle.ec_wire.specs.declared.msg.Msg.{Msg}
use Rattle.ec_wire.specs.declared.msg.Msg.TheVariants.{Hello, Want, Back, Flush, Room, Claim, Bye, Opened, Grant, Recall, Kept, Ids, NoRoom, Ended, Restarted, OldBoot}
use Rattle.ec_protocol.specs.Clerk.{doing, take, taken}
use Rattle.ec_protocol.specs.declared.clerk.Clerk.{Clerk}
use Rattle.ec_coherence.specs.System.{System}
use Rattle.ec_lawful.specs.OfClerkSteps.JoinLaws.{ghosts_joined}
use Rattle.ec_lawful.proofs.OfClerkSteps.ForJoins.Cases as cases
use Rattle.ec_lawful.proofs.OfClerkSteps.ForDoings.Spent.{spent-stays}
use Rattle.ec_lawful.specs.Steps.{StepIsDone}
use Rattle.ec_lawful.specs.Whole.{Whole}
use Rattle.ec_lawful.specs.SettleLaws.{IsLined, TriesAll}
use Rattle.ec_lawful.proofs.Settling as settling
use Rattle.ec_lawful.specs.Taking.{AnswersNone}
use Rattle.ec_lawful.proofs.Same.{first, greets, opens, shows-old}
use Rattle.ec_lawful.proofs.Ended.{ends}
use Rattle.ec_lawful.proofs.Plain.{takes-grant-so, takes-ids-so, takes-kept-so, takes-recall-so, takes-restarted-so}

module _ (g : System) (whole : Whole g) (c b : ℕ) (k : Clerk) (runs : g.running c ≡ Some b) (at-start : g.clerks c b ≡ Some k) where
  abbrev pub Goes : Msg → Type 0
  Goes m = T (is_some (taken m (doing k)).spent) ⊎ IsLined g c b (taken m (doing k)) (ghosts_joined c m (doing k) g.ghost)

  -- in no session
  outside : k.session ≡ None → (m : Msg) → Contains g.pool (c, m) → Goes m
  outside without = cases.outside c g.pool k g.ghost (IsLined g c b) (first g whole c b k runs at-start) (greets g whole c b k runs at-start) (shows-old g whole c b k runs at-start) without
      (((whole.all).0).sessions.without c b k at-start without).asking (opens g whole c b k runs at-start without)

  module _ (s : ℕ) (within : k.session ≡ Some s) where
    -- what isn't of the session, and its end
    beside : (m : Msg) → Contains g.pool (c, m) → Rattle.ec_lawful.specs.OfClerkSteps.JoinLaws.IsBeside s k m → Goes m
    beside = cases.inside c g.pool k g.ghost (IsLined g c b) (first g whole c b k runs at-start) (greets g whole c b k runs at-start) (shows-old g whole c b k runs at-start) s within (ends g whole c b k runs at-start s within)

    inside : (m : Msg) → Contains g.pool (c, m) → AnswersNone k m → Goes m
    inside (Grant n e x m h i) p q = inr (takes-grant-so g whole c b k runs at-start s within n e x m h i p)
    inside (Recall n e x m h) p q = inr (takes-recall-so g whole c b k runs at-start s within n e x m h p)
    inside (Kept n e m) p q = inr (takes-kept-so g whole c b k runs at-start s within n e m p)
    inside (Ids n e got m x) p q = inr (takes-ids-so g whole c b k runs at-start s within n e got m x p)
    inside (Restarted n e) p q = inr (takes-restarted-so g whole c b k runs at-start s within n e p)
    inside (NoRoom n e ask live reserved) p q = beside (NoRoom n e ask live reserved) p q
    inside (Opened age n e) p q = beside (Opened age n e) p tt
    inside (Ended n low mask) p q = beside (Ended n low mask) p tt
    inside (OldBoot asked greatest) p q = beside (OldBoot asked greatest) p tt
    inside (Hello i a) p q = beside (Hello i a) p tt
    inside (Want n e x h m) p q = beside (Want n e x h m) p tt
    inside (Back n e x m h) p q = beside (Back n e x m h) p tt
    inside (Flush n e m ops) p q = beside (Flush n e m ops) p tt
    inside (Room n e got ask) p q = beside (Room n e got ask) p tt
    inside (Claim n e l) p q = beside (Claim n e l) p tt
    inside (Bye n e) p q = beside (Bye n e) p tt

  pub messages-stand : (m : Msg) → Contains g.pool (c, m) → AnswersNone k m → Goes m
  messages-stand m p q = go k.session refl
    where
      go : (o : Option ℕ) → k.session ≡ o → Goes m
      go None e = outside e m p
      go (Some s) e = inside s e m p q

  pub messages-done : TriesAll g c b → (m : Msg) → Contains g.pool (c, m) → AnswersNone k m → StepIsDone Whole g c b (take m k)
  messages-done tries m p q = elim (messages-stand m p q) [
    | inl n ↦ inl (spent-stays.settle (taken m (doing k)) n)
    | inr l ↦ settling.takes g whole c b k runs at-start tries m (ghosts_joined c m (doing k) g.ghost) l
  ]
