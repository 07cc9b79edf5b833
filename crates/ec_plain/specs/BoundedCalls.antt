-- Calls within their bounds.
use Rattle.std.specs.Prelude.{Bool, true, ◌&&◌, nat_le, length}
use Rattle.std.specs.List.{list_all}
use Rattle.ec_base.specs.Limits.{max_path_names}
use Rattle.ec_volume.specs.Limits.{max_mode, max_write_bytes, max_ordered}
use Rattle.ec_plain.specs.Walk.{Path}
use Rattle.ec_plain.specs.declared.call.Call.{Call}
use Rattle.ec_plain.specs.declared.call.Call.TheVariants as call
use Rattle.ec_plain.specs.Bounds.{max_read_bytes}

abbrev pub is_short : Path → Bool
is_short p = nat_le (length p) max_path_names

abbrev pub is_bounded : Call → Bool
is_bounded (call.Mkdir p) = is_short p
is_bounded (call.Create p) = is_short p
is_bounded (call.Write p at bytes) = is_short p && nat_le 1 (length bytes) && nat_le (length bytes) max_write_bytes
is_bounded (call.SetLen p len) = is_short p
is_bounded (call.Read p at count) = is_short p && nat_le count max_read_bytes
is_bounded (call.Chmod p mode) = is_short p && nat_le mode max_mode
is_bounded (call.Touch p stamp) = is_short p
is_bounded (call.Stat p) = is_short p
is_bounded (call.List p) = is_short p
is_bounded (call.Remove p) = is_short p
is_bounded (call.Rmdir p) = is_short p
is_bounded (call.Rename p q) = is_short p && is_short q
is_bounded (call.Fsync p) = is_short p
is_bounded (call.Forder ps) = nat_le 1 (length ps) && nat_le (length ps) max_ordered && list_all is_short ps
is_bounded call.Sync = true
is_bounded (call.Chown p owner) = is_short p
