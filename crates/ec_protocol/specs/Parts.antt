-- Small states of the parts and of the nodes, on which their functions are tried.
use Rattle.std.specs.Prelude.{◌+◌, ◌-◌, ◌^◌, ℕ, zero, suc, List, [], ◌∷◌, ◌++◌, map, Option, Some}
use Rattle.ec_base.specs.declared.ids.Age.{Age}
use Rattle.ec_base.specs.declared.ids.Hold.TheVariants.{Free, Read}
use Rattle.ec_volume.specs.declared.image.Image.TheVariants as image
use Rattle.ec_volume.specs.declared.image.Kind.TheVariants as kind
use Rattle.ec_volume.specs.declared.update.Update.{Update}
use Rattle.ec_volume.specs.declared.update.Update.TheVariants as update
use Rattle.ec_sessions.specs.Slots.{with_slot, new_slot, ended}
use Rattle.ec_cache.specs.Cache as cache
use Rattle.ec_cache.specs.declared.state.CacheState.{CacheState}
use Rattle.ec_log.specs.Log as log
use Rattle.ec_log.specs.declared.state.Asked.TheVariants.{Object, All}
use Rattle.ec_log.specs.declared.state.LogState.{LogState}
use Rattle.ec_cache.specs.OfReport.Report as report
use Rattle.ec_durable.specs.Durable.{formatted}
use Rattle.ec_durable.specs.declared.state.Durable.{Durable}
use Rattle.ec_durable.specs.declared.record.Record.{Record}
use Rattle.ec_durable.specs.declared.record.Record.TheVariants as record_of
use Rattle.ec_wire.specs.declared.msg.Msg.{Msg}
use Rattle.ec_wire.specs.declared.msg.Msg.TheVariants as msg
use Rattle.ec_protocol.specs.declared.server.Server.{Server}
use Rattle.ec_protocol.specs.declared.clerk.Clerk.{Clerk}
use Rattle.ec_protocol.specs.declared.clerk.Out.{Out}
use Rattle.ec_protocol.specs.Server as server
use Rattle.ec_protocol.specs.Clerk as clerk

-- The cache.

-- a cache for two tokens takes those of 5 and 6, uses 5, and takes that of 7
abbrev pub three : CacheState
three = cache.take 7 Read 3 image.Gone (cache.used 5 (cache.take 6 Read 2 image.Gone (cache.take 5 Read 1 image.Gone (cache.empty 2))))

-- the objects whose tokens are too many, with their numbers
abbrev pub gone : List ℕ → CacheState → List (ℕ × ℕ)
gone pinned k = map (λ e. (e.0, (e.1).number)) (cache.evicted pinned k)

-- a token of number 3 was taken, and one of number 7 passed
abbrev pub passed_7 : CacheState
passed_7 = cache.passed 9 7 (cache.take 9 Read 3 image.Gone (cache.empty 4096))

-- The log.

-- so many creates in the root
abbrev pub creates : ℕ → LogState → LogState
creates zero l = l
creates (suc k) l = creates k (log.issue (update.Make 1 ((suc k) ∷ []) (k + 2) kind.File) l)

abbrev pub sixty_five : LogState
sixty_five = creates 65 log.empty

-- all is asked for
abbrev pub next : LogState → LogState
next l = log.after_pick (log.pick All l) l

-- so many batches of one object each are under way
abbrev pub apart : ℕ → LogState → LogState
apart zero l = l
apart (suc k) l = let m = log.issue (update.Stamp (k + 2) 0) l in apart k (log.after_pick (log.pick (Object (k + 2)) m) m)

-- The report.

-- a lost operation with three operands
abbrev pub owed : report.Owed
owed = report.owe ((5, 1 ∷ 2 ∷ 3 ∷ []) ∷ []) []

-- Records.

abbrev pub first_age : Age
first_age = record { boot = 1; round = 0 }

-- the first clerk opens a session and is granted ids
abbrev pub first_records : List Record
first_records = record_of.Open 0 first_age 1 ∷ record_of.Ids 0 1 0 2 ∷ []

abbrev pub make : ℕ → List (ℕ × Update)
make x = (1, update.Make 1 (102 ∷ []) x kind.File) ∷ []

-- The nodes.

abbrev pub started : Server
started = (server.start (formatted 1024)).server

-- the first clerk has a session
abbrev pub with_session : Server
with_session = (server.take 0 (msg.Hello 0 first_age) started).server

-- two clerks have sessions, and the server has started again
abbrev pub with_two : Server
with_two = (server.start (server.take 1 (msg.Hello 1 first_age) with_session).server.durable).server

-- what came of a server's step
abbrev pub said : server.Serving → List (ℕ × Msg) × Option Record
said t = (t.sent, t.rec)

abbrev pub fresh : Clerk
fresh = (clerk.start 0 1).clerk

-- a clerk in a session, without a recall and with one
abbrev pub without_recall : Clerk
without_recall = record fresh { session = Some 1; epoch = 1 }

abbrev pub under_recall : Clerk
under_recall = record without_recall { recalls = record { obj = 5; number = 1; to = Free } ∷ [] }

abbrev pub outs : clerk.Doing → List Out
outs d = d.outs

-- Durable states with a counter at its end.

abbrev pub last_id : Durable
last_id = record (formatted 1024) { next_id = 4294967295 }

abbrev pub last_session : Durable
last_session = record (formatted 1024) { next_session = 2 ^ 62 }

abbrev pub last_epoch : Durable
last_epoch = record (formatted 1024) { epoch = 2 ^ 62 }

abbrev pub epoch_before_last : Durable
epoch_before_last = record (formatted 1024) { epoch = 2 ^ 62 - 1 }

abbrev pub last_boot : Durable
last_boot =
    record (formatted 1024) { sessions = with_slot 0 (ended (Some (new_slot (record { boot = 2 ^ 62; round = 0 }) 1))) (formatted 1024).sessions; next_session = 2 }
