-- The words of a log: flags, states, kinds of nodes and refusals.
use Rattle.std.specs.Prelude.{ℕ, Bool, true, false, List, [], ◌++◌, codes}
use Rattle.text_words.specs.Numbers.{decimal_of}
use Rattle.mount_model.specs.declared.reply.KeyState.{KeyState}
use Rattle.mount_model.specs.declared.reply.KeyState.TheVariants.{Absent, Present, Incomplete}
use Rattle.mount_model.specs.declared.reply.NodeKind.{NodeKind}
use Rattle.mount_model.specs.declared.reply.NodeKind.TheVariants.{Dir, File, Link}
use Rattle.mount_model.specs.declared.reply.Refusal.{Refusal}
use Rattle.mount_model.specs.declared.reply.Refusal.TheVariants.{NoKey, Access, Quota, Inval, Exists}
use Rattle.mount_model.specs.declared.reply.Refusal.TheVariants.{NotFound, NotDir, IsDir, NotEmpty, XDev}
use Rattle.mount_model.specs.declared.reply.Refusal.TheVariants.{NoData, BadHandle, NameTooLong, TooBig}
use Rattle.mount_model.specs.declared.reply.Refusal.TheVariants.{NoSpace, NoKeyClash, Changed, NoMemory}

abbrev pub bit : Bool → ℕ
bit false = 0
bit true = 1

-- a name and a flag, 1 or 0
abbrev pub flag_text : List ℕ → Bool → List ℕ
flag_text name value = name ++ decimal_of (bit value)

abbrev pub state_text : KeyState → List ℕ
state_text Absent = codes "absent"
state_text Present = codes "present"
state_text Incomplete = codes "incomplete"

abbrev pub kind_text : NodeKind → List ℕ
kind_text Dir = codes "dir"
kind_text File = codes "file"
kind_text Link = codes "link"

-- the name of a refusal, with a space after it if a version follows
abbrev pub refusal_name : Refusal → List ℕ
refusal_name NoKey = codes "no-key"
refusal_name Access = codes "access"
refusal_name Quota = codes "quota"
refusal_name Inval = codes "inval"
refusal_name Exists = codes "exists"
refusal_name NotFound = codes "not-found"
refusal_name NotDir = codes "not-dir"
refusal_name IsDir = codes "is-dir"
refusal_name NotEmpty = codes "not-empty"
refusal_name XDev = codes "x-dev"
refusal_name NoData = codes "no-data"
refusal_name BadHandle = codes "bad-handle"
refusal_name NameTooLong = codes "name-too-long"
refusal_name TooBig = codes "too-big"
refusal_name NoSpace = codes "no-space"
refusal_name NoKeyClash = codes "no-key-clash"
refusal_name (Changed version) = codes "changed "
refusal_name NoMemory = codes "no-memory"

-- the version that follows it, if any
abbrev pub version_text : Refusal → List ℕ
version_text (Changed version) = decimal_of version
version_text other = []

abbrev pub refusal_text : Refusal → List ℕ
refusal_text refusal = refusal_name refusal ++ version_text refusal
