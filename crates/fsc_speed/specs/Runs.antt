-- What one run of a kernel leaves for the next.
use Rattle.std.specs.Prelude.{ℕ, List, ◌++◌, length, take, drop}
use Rattle.fsc_keys.specs.Keys.{derived, key_bytes, mode_key_of}
use Rattle.fsc_keys.specs.declared.file_keys.KeyKind.TheVariants.{Contents}
use Rattle.policy_ctx.specs.declared.policy.Pad.TheVariants.{P32}
use Rattle.name_crypt.specs.StoredName.{stored_name_with}
use Rattle.name_crypt.specs.NoKeyText.{nokey_text_of}

-- the next nonce: the first bytes of the names key of this one
abbrev pub next_nonce : List ℕ → List ℕ → List ℕ
next_nonce raw nonce = take 16 (derived raw 2 nonce 32)

-- the next iv: the first block of the name stored under this one
abbrev pub next_iv : List ℕ → List ℕ → List ℕ → List ℕ
next_iv key name iv = take 16 (stored_name_with key iv P32 name)

-- the next stored name: the no-key text of this one, written over its beginning
abbrev pub next_stored_name : List ℕ → List ℕ
next_stored_name stored = nokey_text_of stored ++ drop (length (nokey_text_of stored)) stored

-- the next raw key: the mode key for contents of this one
abbrev pub next_raw : List ℕ → List ℕ
next_raw raw = key_bytes (mode_key_of raw Contents)
