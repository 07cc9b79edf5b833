-- Each step of a clerk keeps all facts.
use Rattle.std.proofs.Common.{◌≡◌, refl, sym, ap, ◌∙◌, ◌+◌, ℕ, Bool, true, false, Option, Some, None}
use Rattle.std.specs.Prelude.{Contains}
use Rattle.ec_wire.specs.declared.msg.Msg.{Msg}
use Rattle.ec_wire.specs.declared.msg.Msg.TheVariants.{Hello, Want, Back, Flush, Room, Claim, Bye, Opened, Grant, Recall, Kept, Ids, NoRoom, Ended, Restarted, OldBoot}
use Rattle.ec_protocol.specs.Clerk.{Doing, doing, is_session, resend, take}
use Rattle.ec_protocol.specs.declared.clerk.Clerk.{Clerk}
use Rattle.ec_coherence.specs.System.{System, Ghost}
use Rattle.ec_coherence.specs.Steps.{doing_in, sends}
use Rattle.ec_coherence.proofs.ForServer.Lists.{each-more}
use Rattle.ec_coherence.proofs.ForCommits.Needs.{each-of}
use Rattle.ec_lawful.specs.OfClerkSteps.Frees.{IsFull}
use Rattle.ec_lawful.specs.OfClerkSteps.Fulls.{IsFullAt}
use Rattle.ec_lawful.proofs.OfClerkSteps.ForNames.Sent.{own-full, resend-own}
use Rattle.ec_lawful.specs.Steps.{StepIsDone}
use Rattle.ec_lawful.specs.Whole.{ShowsAll, Whole}
use Rattle.ec_lawful.proofs.Runs.{ClerksKeep}
use Rattle.ec_lawful.specs.SettleLaws.{IsLined}
use Rattle.ec_lawful.proofs.ForBegins.Beginning.{begins}
use Rattle.ec_lawful.proofs.ForBegins.Resending.{resends-keep}
use Rattle.ec_lawful.proofs.ForBegins.Carrying.{same-shows}
use Rattle.ec_lawful.proofs.Settling as settling
use Rattle.ec_lawful.proofs.Taken.{messages-done}
use Rattle.ec_lawful.proofs.Answering.{all-in}
use Rattle.ec_lawful.proofs.Tries.{answers-show, tries-show}
use Rattle.ec_lawful.specs.Rooms.{unasked}
use Rattle.ec_lawful.proofs.Forgets.{forgets}
use Rattle.ec_lawful.proofs.Refuses.{no-room}
use Rattle.ec_lawful.proofs.CallsBegin.{calls-whole}
use Rattle.ec_lawful.proofs.Starts.{starts-whole}

-- what goes on with them beside
abbrev Q : System → ℕ → ℕ → Doing → Ghost → Type 0
Q g c b d γ = ShowsAll (doing_in c b d γ g)

module _ (g : System) (whole : Whole g) (c b : ℕ) (k : Clerk) (runs : g.running c ≡ Some b) (there : g.clerks c b ≡ Some k) where
  refused : (s e ask live reserved : ℕ) → Contains g.pool (c, NoRoom s e ask live reserved) → is_session ask k.asking ≡ true → StepIsDone Whole g c b (take (NoRoom s e ask live reserved) k)
  refused s e ask live reserved sent asked = by k.session refl
    where
      first : IsLined g c b (doing k) g.ghost
      first = begins g whole c b k runs there

      by : (o : Option ℕ) → k.session ≡ o → StepIsDone Whole g c b (take (NoRoom s e ask live reserved) k)
      by None p = absurd (apart (sym (ap (is_session ask) (((whole.all).0).sessions.without c b k there p).asking) ∙ asked))
        where
          apart : false ≡ true → ⊥
          apart q = cc
      by (Some u) p =
          let r = no-room g c b (Q g c b) (answers-show g c b) live reserved (each-of (λ m. IsFull g m.1) g.pool (c, NoRoom s e ask live reserved) whole.fulls sent) (doing k) g.ghost
          (record { trying = first.trying; lines = first.lines; also = first.shows }) u p (λ t. same-shows g c b (doing k) (unasked (doing k)) g.ghost first.trying (all-in g c b (unasked (doing k)) g.ghost (forgets g c b u (doing k) g.ghost first.trying p first.lines).0) (refl, refl, refl) t) ask in
          settling.takes g whole c b k runs there (tries-show g c b) (NoRoom s e ask live reserved) r.0 (record { trying = (r.1).trying; lines = (r.1).lines; shows = (r.1).also })

  messages : (m : Msg) → Contains g.pool (c, m) → StepIsDone Whole g c b (take m k)
  messages (NoRoom s e ask live reserved) p = go (is_session ask k.asking) refl
    where
      go : (z : Bool) → is_session ask k.asking ≡ z → StepIsDone Whole g c b (take (NoRoom s e ask live reserved) k)
      go true q = refused s e ask live reserved p q
      go false q = messages-done g whole c b k runs there (tries-show g c b) (NoRoom s e ask live reserved) p q
  messages (Hello a x) p = messages-done g whole c b k runs there (tries-show g c b) (Hello a x) p tt
  messages (Opened a s e) p = messages-done g whole c b k runs there (tries-show g c b) (Opened a s e) p tt
  messages (OldBoot a x) p = messages-done g whole c b k runs there (tries-show g c b) (OldBoot a x) p tt
  messages (Grant s e x n h i) p = messages-done g whole c b k runs there (tries-show g c b) (Grant s e x n h i) p tt
  messages (Recall s e x n h) p = messages-done g whole c b k runs there (tries-show g c b) (Recall s e x n h) p tt
  messages (Kept s e n) p = messages-done g whole c b k runs there (tries-show g c b) (Kept s e n) p tt
  messages (Ids s e got n x) p = messages-done g whole c b k runs there (tries-show g c b) (Ids s e got n x) p tt
  messages (Ended s low mask) p = messages-done g whole c b k runs there (tries-show g c b) (Ended s low mask) p tt
  messages (Restarted s e) p = messages-done g whole c b k runs there (tries-show g c b) (Restarted s e) p tt
  messages (Want s e x h n) p = messages-done g whole c b k runs there (tries-show g c b) (Want s e x h n) p tt
  messages (Back s e x n h) p = messages-done g whole c b k runs there (tries-show g c b) (Back s e x n h) p tt
  messages (Flush s e n ops) p = messages-done g whole c b k runs there (tries-show g c b) (Flush s e n ops) p tt
  messages (Room s e got ask) p = messages-done g whole c b k runs there (tries-show g c b) (Room s e got ask) p tt
  messages (Claim s e l) p = messages-done g whole c b k runs there (tries-show g c b) (Claim s e l) p tt
  messages (Bye s e) p = messages-done g whole c b k runs there (tries-show g c b) (Bye s e) p tt

  resends : StepIsDone Whole g c b (resend k)
  resends = resends-keep g whole c b k runs there (each-more (λ m. IsFullAt g.durable.max_objects m.1) g.pool (sends c (resend k).outs) whole.fulls (own-full c g.durable.max_objects (resend k).outs (resend-own k)))

pub clerks-keep-all : ClerksKeep Whole
clerks-keep-all = record {
  messages = λ g c b k f run there m p. messages g f c b k run there m p;
  pushes = λ g c b k f run there n. settling.pushes g f c b k run there (tries-show g c b) n;
  resends = λ g c b k f run there. resends g f c b k run there;
  calls = λ g c b k f run there l cl new bounded. calls-whole g f c b k run there (λ h. tries-show h c b) l cl new bounded;
  starts = λ g c f idle within l cl new bounded spare. starts-whole g f c idle within l cl new bounded (λ h. tries-show h c (g.boots c + 1)) spare;
}
