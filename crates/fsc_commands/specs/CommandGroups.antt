-- Groups of commands: those whose single call carries bytes, a nonce of its own or a path, and those whose
-- work opens a protector.
use Rattle.std.specs.Prelude.{⊤}
use Rattle.script_lang.specs.declared.verb.Verb.{Verb}
use Rattle.script_lang.specs.declared.verb.Verb.TheVariants as verb

-- a single call that carries bytes, and no path
abbrev pub CarriesBytes : Verb → Type 0
CarriesBytes (verb.AddKey raw) = ⊤
CarriesBytes (verb.Write handle offset bytes) = ⊤
CarriesBytes (verb.Fill handle offset len byte) = ⊤
CarriesBytes (verb.MetaGet name) = ⊤
CarriesBytes (verb.MetaPut name expected bytes) = ⊤
CarriesBytes other = ⊥

-- one that carries a path and a nonce of its own
abbrev pub DerivesNonce : Verb → Type 0
DerivesNonce (verb.SetPolicy path key settings) = ⊤
DerivesNonce (verb.SetPolicyBytes path policy) = ⊤
DerivesNonce (verb.Mkdir path) = ⊤
DerivesNonce (verb.Create path) = ⊤
DerivesNonce (verb.Symlink path target) = ⊤
DerivesNonce other = ⊥

-- one that carries a path, and no nonce
abbrev pub NamesPath : Verb → Type 0
NamesPath (verb.GetPolicy path) = ⊤
NamesPath (verb.ReadLink path) = ⊤
NamesPath (verb.Unlink path) = ⊤
NamesPath (verb.Rmdir path) = ⊤
NamesPath (verb.Rename old_path new_path) = ⊤
NamesPath (verb.List path start) = ⊤
NamesPath (verb.Stat path) = ⊤
NamesPath (verb.Open path) = ⊤
NamesPath other = ⊥

-- a session's work that opens a protector with a secret
abbrev pub OpensProtector : Verb → Type 0
OpensProtector (verb.ProtectorChange protector secret new) = ⊤
OpensProtector (verb.PolicyNew policy protector secret options) = ⊤
OpensProtector (verb.PolicyAdd policy protector secret added added_secret) = ⊤
OpensProtector (verb.Unlock policy protector secret) = ⊤
OpensProtector other = ⊥
