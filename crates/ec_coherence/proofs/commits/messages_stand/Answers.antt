use Rattle.std.specs.Prelude.{ℕ, Contains, Some, ◌≡◌}
use Rattle.ec_wire.specs.declared.msg.Msg.{Msg}
use Rattle.ec_wire.specs.declared.msg.Msg.TheVariants.{Want, Back, Flush, Room, Claim}
use Rattle.ec_protocol.specs.declared.server.Server.{Server}
use Rattle.ec_coherence.specs.System.{System}
use Rattle.ec_coherence.specs.CommitLaws.{AllAgree, TakesStep, IsWant, IsBack, IsClaim, IsFlush, IsRoom}
use Rattle.ec_coherence.proofs.ForCommits.Taking.{takes-back, takes-claim, takes-flush, takes-hello, takes-room, takes-want}
use Rattle.ec_coherence.proofs.commits.messages_stand.Goals as goal

wants : (g : System) (v : Server) → AllAgree g → g.server ≡ Some v → (c : ℕ) (m : Msg) → IsWant m → Contains g.pool (c, m) → TakesStep g c m v
wants g v all up c (Want s e x h l) is p = takes-want g v all up c s e x l h p
wants g v all up c _ is p = absurd is

backs : (g : System) (v : Server) → AllAgree g → g.server ≡ Some v → (c : ℕ) (m : Msg) → IsBack m → Contains g.pool (c, m) → TakesStep g c m v
backs g v all up c (Back s e x n h) is p = takes-back g v all up c s e x n h p
backs g v all up c _ is p = absurd is

batches : (g : System) (v : Server) → AllAgree g → g.server ≡ Some v → (c : ℕ) (m : Msg) → IsFlush m → Contains g.pool (c, m) → TakesStep g c m v
batches g v all up c (Flush s e b ops) is p = takes-flush g v all up c s e b ops p
batches g v all up c _ is p = absurd is

claims : (g : System) (v : Server) → AllAgree g → g.server ≡ Some v → (c : ℕ) (m : Msg) → IsClaim m → Contains g.pool (c, m) → TakesStep g c m v
claims g v all up c (Claim s e l) is p = takes-claim g v all up c s e l p
claims g v all up c _ is p = absurd is

rooms : (g : System) (v : Server) → AllAgree g → g.server ≡ Some v → (c : ℕ) (m : Msg) → IsRoom m → Contains g.pool (c, m) → TakesStep g c m v
rooms g v all up c (Room s e got ask) is p = takes-room g v all up c s e got ask p
rooms g v all up c _ is p = absurd is

pub returns-clause-wants : goal.returns-clause-wants
returns-clause-wants c = wants

pub returns-clause-backs : goal.returns-clause-backs
returns-clause-backs c = backs

pub returns-clause-batches : goal.returns-clause-batches
returns-clause-batches c = batches

pub returns-clause-claims : goal.returns-clause-claims
returns-clause-claims c = claims

pub returns-clause-greetings : goal.returns-clause-greetings
returns-clause-greetings z g v all up c from age alone p = takes-hello g v all up c from age alone p

pub returns-clause-rooms : goal.returns-clause-rooms
returns-clause-rooms c = rooms
