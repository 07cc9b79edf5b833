-- Which batch a delivery commits.
use Rattle.std.proofs.Common.{◌≡◌, refl, sym, ap, ◌∙◌, ℕ, Bool, true, false, List, [], ◌∷◌, Option, Some}
use Rattle.std.proofs.lemmas.Bool.{true≢false}
use Rattle.ec_base.specs.Tables.{at}
use Rattle.ec_history.specs.History.{Each}
use Rattle.ec_history.specs.declared.shown.Shown.{Shown}
use Rattle.ec_history.specs.declared.shown.Shown.TheVariants as show
use Rattle.ec_order.specs.Order.{Issued}
use Rattle.ec_wire.specs.declared.msg.Msg.{Msg}
use Rattle.ec_wire.specs.declared.msg.Msg.TheVariants as msg
use Rattle.ec_durable.specs.declared.record.Record.TheVariants.{Batch}
use Rattle.ec_protocol.specs.Server.{take}
use Rattle.ec_protocol.specs.World.{deliver, runs}
use Rattle.ec_protocol.specs.declared.world.Sent.{Sent}
use Rattle.ec_protocol.specs.declared.world.World.{World}
use Rattle.ec_quiet.specs.Facts.{session_clerk}
use Rattle.ec_quiet.specs.Phases.{Phase, Greets, Opens, Claims, Wants, Recalls, Flushes, Keeps, Grants, Asks, Gives, Refuses, Saves, Saved, Ends, InPhase, main, messages, is_back, is_back_message}
use Rattle.ec_quiet.specs.Scenes.{Mail, Scene}
use Rattle.ec_quiet.specs.Works.{Work}
use Rattle.ec_quiet.proofs.OfDeliveries.Working.{main-front}
use Rattle.ec_machine_laws.specs.Counts.{IsFlushed}
use Rattle.ec_machine_laws.proofs.Lines.{lines-flushed}
use Rattle.ec_machine_laws.proofs.Taken.{batches-flushed}
use Rattle.ec_quiet.specs.OfDeliveries.Coming.{IsBatchOf, IsLineOf}
use Rattle.ec_quiet.proofs.OfDeliveries.ServerDelivered.{head-same, none-first}
use Rattle.ec_quiet.proofs.OfDeliveries.Frames.{no-back}

is-flush : Msg → Bool
is-flush (msg.Flush s e b ops) = true
is-flush _ = false

-- the same batch, number by number
flush-same : (s t e f b n : ℕ) (ops others : Issued) → msg.Flush s e b ops ≡ msg.Flush t f n others → (t ≡ s) × (n ≡ b) × (others ≡ ops)
flush-same s t e f b n ops others q =
    let sessions : t ≡ s = cc in
    let numbers : n ≡ b = cc in
    let operations : others ≡ ops = cc in
    (sessions, numbers, operations)

module _ (j : Work) (sc : Scene) (m : ℕ × Msg) (others : Mail) (a s e b : ℕ) (ops : Issued) (clerk : m.0 ≡ a) (message : m.1 ≡ msg.Flush s e b ops) where
  -- the first message of the phase is this batch
  of-batch : (c : ℕ) (t f n : ℕ) (os : Issued) (more : Mail) → (c, msg.Flush t f n os) ∷ more ≡ m ∷ others → (a ≡ c) × (s ≡ t) × (b ≡ n) × (ops ≡ os)
  of-batch c t f n os more q =
      let first = head-same (c, msg.Flush t f n os) m more others q in
      let same = flush-same t s f e n b os ops (ap (λ z. z.1) first ∙ message) in
      (sym (ap (λ z. z.0) first ∙ clerk), same.0, same.1, same.2)

  -- or it's none
  no-batch : (c : ℕ × Msg) (more : Mail) → c ∷ more ≡ m ∷ others → is-flush c.1 ≡ false → ⊥
  unfolding is-flush
  no-batch c more q off = absurd (true≢false (sym (ap is-flush (ap (λ z. z.1) (head-same c m more others q) ∙ message)) ∙ off))

  by-phase : (p : Phase) → messages j sc p ≡ m ∷ others → IsBatchOf j sc p a s b ops
  unfolding is-flush
  by-phase (Greets age) q = absurd (no-batch _ _ q refl)
  by-phase (Opens age) q = absurd (no-batch _ _ q refl)
  by-phase (Claims o) q = absurd (no-batch _ _ q refl)
  by-phase (Wants x h n) q = absurd (no-batch _ _ q refl)
  by-phase (Recalls x h (r ∷ rs) bs) q = absurd (no-batch _ _ q refl)
  by-phase (Recalls x h [] []) q = absurd (none-first m others q)
  by-phase (Recalls x h [] (r ∷ bs)) q = absurd (no-batch _ _ q refl)
  by-phase (Flushes x h r n os more) q = of-batch (session_clerk sc.server r.0) r.0 sc.server.durable.epoch n os [] q
  by-phase (Keeps x h r n more) q = absurd (no-batch _ _ q refl)
  by-phase (Grants x h n) q = absurd (no-batch _ _ q refl)
  by-phase (Asks again got ask) q = absurd (no-batch _ _ q refl)
  by-phase (Gives got n first) q = absurd (no-batch _ _ q refl)
  by-phase (Refuses again ask live reserved) q = absurd (no-batch _ _ q refl)
  by-phase (Saves n os more) q = of-batch j.clerk j.session sc.server.durable.epoch n os [] q
  by-phase (Saved n more) q = absurd (no-batch _ _ q refl)
  by-phase Ends q = absurd (none-first m others q)

pub batches-of-phases : (j : Work) (sc : Scene) (p : Phase) (m : ℕ × Msg) (rest : Mail) → InPhase j sc p → sc.mail ≡ m ∷ rest → (a s b : ℕ) (ops : Issued) → (take m.0 m.1 sc.server).rec ≡ Some (Batch a s b ops) → IsBatchOf j sc p a s b ops
batches-of-phases j sc p m rest ip mail a s b ops e =
    let f = batches-flushed m.0 m.1 sc.server a s b ops e in
    let away : is_back j m ≡ false = no-back j m.0 m.1 (ap is_back_message f.2) in
    by-phase j sc m (main j rest) a s f.1 b ops f.0 f.2 p (sym ip.main_is ∙ ap (main j) mail ∙ main-front j m rest away)

-- What is shown.

each-turn : (P Q : Shown → Type 0) → ((l : Shown) → P l → Q l) → (ls : List Shown) → Each P ls → Each Q ls
each-turn P Q f [] e = tt
each-turn P Q f (l ∷ ls) e = (f l e.0, each-turn P Q f ls e.1)

module _ (j : Work) (sc : Scene) (p : Phase) (w : World) (i : ℕ) (x : Sent) (rest : Mail) (ip : InPhase j sc p) (there : at i w.pool ≡ Some x) (mail : sc.mail ≡ (x.clerk, x.msg) ∷ rest) where
  line-of : (l : Shown) → IsFlushed w i l → IsLineOf j sc p l
  line-of (show.Durable c ns) f =
      let both : ◌≡◌ {A = Option Sent} (Some f.0) (Some x) = sym f.5 ∙ there in
      let same : f.0 ≡ x = cc in
      let message : x.msg ≡ msg.Flush f.1 f.3 f.2 f.4 = ap (λ z. z.msg) (sym same) ∙ f.7 in
      let away : is_back j (x.clerk, x.msg) ≡ false = no-back j x.clerk x.msg (ap is_back_message message) in
      (f.1, f.2, f.4, by-phase j sc (x.clerk, x.msg) (main j rest) c f.1 f.3 f.2 f.4 (ap (λ z. z.clerk) (sym same) ∙ f.6) message p (sym ip.main_is ∙ ap (main j) mail ∙ main-front j (x.clerk, x.msg) rest away), f.8)
  line-of (show.Waits l c cl) f = tt
  line-of (show.Answered l c cl a op) f = tt
  line-of (show.Ended c ns) f = tt
  line-of (show.Unseen c) f = tt
  line-of (show.Told c ns) f = tt
  line-of (show.Crashed c) f = tt
  line-of show.Stopped f = tt
  line-of show.Started f = tt
  line-of show.Nothing f = tt
  line-of show.Unsettled f = tt
  line-of (show.Bad l k) f = tt
  line-of (show.DiskBad k) f = tt
  line-of (show.Limit n k) f = tt
  line-of (show.Spent n) f = tt

  pub lines-of-phases : Each (IsLineOf j sc p) (deliver runs i w).shown
  lines-of-phases = each-turn (IsFlushed w i) (IsLineOf j sc p) line-of (deliver runs i w).shown (lines-flushed w i)
