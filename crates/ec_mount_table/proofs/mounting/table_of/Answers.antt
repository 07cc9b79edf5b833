use Rattle.std.proofs.Common.{◌∙◌, sym, ap, subst, arith}
use Rattle.std.specs.String.{string_bytes}
use Rattle.ec_mount_words.specs.Mounts.{IsMount, mount_path}
use Rattle.ec_mount_table.proofs.Paths.{mount_here, paths_all, paths_more}
use Rattle.ec_mount_table.proofs.mounting.table_of.Goals as goal

pub mount_of-requires : goal.mount_of-requires
mount_of-requires c =
    subst IsMount (sym c.as_str.ensures.value) (mount_here string_bytes c.args.words.now c.words.word-index c.word-item.result c.requires c.words-test.true c.word-item.is)

pub words-preserved : goal.words-preserved
words-preserved c =
    paths_more string_bytes c.args.words.now c.words.word-index c.word-item.result c.words.table.items c.push.new.self.items c.in_ok-path.path c.words-test.true c.word-item.is c.words.invariant
    (c.in_ok-path.ensures.path ∙ ap mount_path c.as_str.ensures.value) c.in_ok-push.ensures.items

pub returns : goal.returns
returns c = paths_all string_bytes c.args.words.now c.words.word-index c.words.table.items (omega (arith, c.words-test.false)) c.words.invariant
