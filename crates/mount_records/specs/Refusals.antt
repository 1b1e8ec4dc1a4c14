-- How the mount reports why a record isn't stored.
use Rattle.meta_files.specs.declared.fault.StoreFault.{StoreFault}
use Rattle.meta_files.specs.declared.fault.StoreFault.TheVariants as fault
use Rattle.mount_model.specs.declared.reply.Refusal.{Refusal}
use Rattle.mount_model.specs.declared.reply.Refusal.TheVariants.{TooBig, Changed, NoSpace, NoMemory}

abbrev pub refusal_of : StoreFault → Refusal
refusal_of fault.TooBig = TooBig
refusal_of (fault.Changed version) = Changed version
refusal_of fault.NoSpace = NoSpace
refusal_of fault.NoMemory = NoMemory
