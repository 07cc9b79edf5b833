-- What is proved of the functions of a clerk's step that answer no call, as contracts name it: the step stands with all facts behind each.
use Rattle.std.specs.Prelude.{◌≡◌, ℕ, T, List, [], Some, is_some, ⊤}
use Rattle.ec_base.specs.declared.ids.Hold.{Hold}
use Rattle.ec_history.specs.History.{Each}
use Rattle.ec_plain.specs.declared.call.Call.{Call}
use Rattle.ec_wire.specs.Messages.{is_held_mode, is_sound}
use Rattle.ec_wire.specs.declared.msg.Msg.{Msg}
use Rattle.ec_wire.specs.declared.msg.Msg.TheVariants.{Grant, Recall, Kept, Ids, Restarted}
use Rattle.ec_log.specs.declared.state.Asked.{Asked}
use Rattle.ec_cache.specs.declared.resolve.verdict.Verdict.TheVariants.{NeedIds}
use Rattle.ec_protocol.specs.Clerk.{Doing, add_call, answer_recalls, ask_for, ask_pushes, ask_room, bye, claim, doing, evict, flush, keep_push, need_of, new_clerk, resend, resend_want, send_outstanding, settle, taken, verdict, want}
use Rattle.ec_protocol.specs.declared.clerk.Clerk.{Clerk}
use Rattle.ec_coherence.specs.System.{System, Ghost}
use Rattle.ec_coherence.specs.Opening.{opening}
use Rattle.ec_coherence.specs.Sessions as sessions
use Rattle.ec_coherence.specs.Tokens.{Fits, Names, view}
use Rattle.ec_coherence.specs.Steps.{doing_in}
use Rattle.ec_coherence.specs.CommitLaws.{AllAgree}
use Rattle.ec_coherence.specs.StandLaws.{IsUnderWay}
use Rattle.ec_lawful.specs.OfClerkSteps.Orderly.{IsOrderly, OrderlyAgree}
use Rattle.ec_lawful.specs.OfClerkSteps.Names.{NamesAgree}

-- The step is under way in the session s with all facts, its clerk is orderly, and what calls can come upon is named.
pub record IsInHand (g : System) (c b s : ℕ) (d : Doing) (γ : Ghost) : Type 0 where
  pub under_way : IsUnderWay g c b s d γ
  pub orderly : IsOrderly d.clerk
  pub names : NamesAgree (doing_in c b d γ g)

-- so it begins, in the session in which the clerk is
abbrev pub BeginsInHand : Type 0
BeginsInHand = (g : System) → AllAgree g → OrderlyAgree g → NamesAgree g → (c b s : ℕ) (k : Clerk) → g.running c ≡ Some b → g.clerks c b ≡ Some k → k.session ≡ Some s → IsInHand g c b s (doing k) g.ghost

-- it stays so behind a function, with the same ghosts: nothing is shown, and no operation is issued
abbrev pub KeepsInHand : (Doing → Doing) → Type 0
KeepsInHand f = (g : System) (c b s : ℕ) (d : Doing) (γ : Ghost) → IsInHand g c b s d γ → IsInHand g c b s (f d) γ

-- recalls are answered, pushed closures are asked for, tokens beyond the capacity go back
abbrev pub RecallsAnswer : Type 0
RecallsAnswer = KeepsInHand answer_recalls

abbrev pub PushesAsk : Type 0
PushesAsk = KeepsInHand ask_pushes × ((n : ℕ) → KeepsInHand (keep_push n))

abbrev pub TokensGoBack : Type 0
TokensGoBack = KeepsInHand evict

-- a closure is asked for: each Flush is sound
abbrev pub ClosuresAreAsked : Type 0
ClosuresAreAsked = (a : Asked) → KeepsInHand (ask_for a)

-- what is held is claimed, and what is outstanding goes out again
abbrev pub ClaimsStand : Type 0
ClaimsStand = KeepsInHand claim

abbrev pub AllIsSent : Type 0
AllIsSent = KeepsInHand send_outstanding

-- what a call's verdict needs is of a mode that can be held, and named; where it needs ids, there is none
abbrev pub NeedsAreNamed : Type 0
NeedsAreNamed = (g : System) (c b s : ℕ) (d : Doing) (γ : Ghost) → IsInHand g c b s d γ → (cl : Call) → Each (λ q. T (is_held_mode q.1) × Names (view (doing_in c b d γ g)) q.0) (need_of (verdict cl d.clerk))

abbrev pub IdsAreOut : Type 0
IdsAreOut = (cl : Call) (k : Clerk) (xs : List ℕ) → verdict cl k ≡ NeedIds xs → k.ids ≡ []

-- it's wanted, once or again, and ids are asked for
abbrev pub WantsKeep : Type 0
WantsKeep = (g : System) (c b s : ℕ) (d : Doing) (γ : Ghost) → IsInHand g c b s d γ → (x : ℕ) (h : Hold) → T (is_held_mode h) → Names (view (doing_in c b d γ g)) x
    → IsInHand g c b s (want x h d) γ × ((sent : List (ℕ × Hold)) → IsInHand g c b s (resend_want x h sent d) γ)

abbrev pub RoomsKeep : Type 0
RoomsKeep = (g : System) (c b s : ℕ) (d : Doing) (γ : Ghost) → IsInHand g c b s d γ → d.clerk.ids ≡ [] → IsInHand g c b s (ask_room d) γ

-- Messages: one is taken of which the facts on sessions and tokens hold, of whatever session and epoch.
abbrev pub TakesMessage : (Msg → Type 0) → Type 0
TakesMessage P = (g : System) (c b s : ℕ) (d : Doing) (γ : Ghost) → IsInHand g c b s d γ → (m : Msg) → P m → sessions.Fits (doing_in c b d γ g) c m → T (is_sound m) → Fits (view (doing_in c b d γ g)) m → IsInHand g c b s (taken m d) γ

abbrev pub IsGrant : Msg → Type 0
IsGrant (Grant s e x n h i) = ⊤
IsGrant _ = ⊥

abbrev pub IsRecall : Msg → Type 0
IsRecall (Recall s e x n h) = ⊤
IsRecall _ = ⊥

abbrev pub IsKept : Msg → Type 0
IsKept (Kept s e b) = ⊤
IsKept _ = ⊥

abbrev pub IsIds : Msg → Type 0
IsIds (Ids s e got n first) = ⊤
IsIds _ = ⊥

abbrev pub IsRestarted : Msg → Type 0
IsRestarted (Restarted s e) = ⊤
IsRestarted _ = ⊥

-- Whole calls of a clerk in a session.
abbrev pub CallsStand : Type 0
CallsStand = (g : System) → AllAgree g → OrderlyAgree g → NamesAgree g → (c b s : ℕ) (k : Clerk) → g.running c ≡ Some b → g.clerks c b ≡ Some k → k.session ≡ Some s
    → ((a : Asked) → IsInHand g c b s (flush a k) g.ghost) × IsInHand g c b s (bye k) g.ghost × IsInHand g c b s (resend k) g.ghost

-- A counter that is spent stays so.
abbrev pub StaysSpent : (Doing → Doing) → Type 0
StaysSpent f = (d : Doing) → T (is_some d.spent) → T (is_some (f d).spent)

pub record SpentStays : Type 0 where
  pub recalls : StaysSpent answer_recalls
  pub pushes : StaysSpent ask_pushes
  pub evict : StaysSpent evict
  pub ask_for : (a : Asked) → StaysSpent (ask_for a)
  pub claim : StaysSpent claim
  pub outstanding : StaysSpent send_outstanding
  pub want : (x : ℕ) (h : Hold) → StaysSpent (want x h)
  pub resend_want : (x : ℕ) (h : Hold) (sent : List (ℕ × Hold)) → StaysSpent (resend_want x h sent)
  pub ask_room : StaysSpent ask_room
  pub taken : (m : Msg) → StaysSpent (taken m)
  pub settle : StaysSpent settle

-- The clerk by itself: it's orderly when it starts, and stays so.
pub record OrderStays : Type 0 where
  pub start : (c boot : ℕ) → IsOrderly (new_clerk c boot)
  pub taken : (m : Msg) → T (is_sound m) → (d : Doing) → IsOrderly d.clerk → IsOrderly (taken m d).clerk
  pub settle : (d : Doing) → IsOrderly d.clerk → IsOrderly (settle d).clerk
  pub add_call : (cl : Call) (k : Clerk) → IsOrderly k → IsOrderly (add_call cl k)
  pub keep_push : (n : ℕ) (d : Doing) → IsOrderly d.clerk → IsOrderly (keep_push n d).clerk
  pub flush : (a : Asked) (k : Clerk) → IsOrderly k → IsOrderly (flush a k).clerk
  pub bye : (k : Clerk) → IsOrderly k → IsOrderly (bye k).clerk
  pub resend : (k : Clerk) → IsOrderly k → IsOrderly (resend k).clerk

-- so it's with all of them, where one of them takes a step; and at the beginning
abbrev pub OrderAgrees : Type 0
OrderAgrees = (g : System) (c b : ℕ) (d : Doing) (γ : Ghost) → OrderlyAgree g → IsOrderly d.clerk → OrderlyAgree (doing_in c b d γ g)

abbrev pub OpeningIsInOrder : Type 0
OpeningIsInOrder = (most : ℕ) → OrderlyAgree (opening most) × NamesAgree (opening most)
