-- Members as a map holds them.
use Rattle.std.specs.Prelude.{◌≡◌, None}
use Rattle.serde_json.specs.Data.{Members, no_members, member}
use Rattle.serde_json.specs.Find.{get_member}

-- no key occurs twice
abbrev pub HasKeysOnce : Members → Type 0
HasKeysOnce no_members = Unit {0}
HasKeysOnce (member k d ms) = (get_member k ms ≡ None) × HasKeysOnce ms
