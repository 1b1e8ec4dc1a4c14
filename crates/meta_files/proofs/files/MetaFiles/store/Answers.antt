-- A record that the index has is replaced in its place; any other is appended.
use Rattle.std.proofs.Common.{rules, ◌≡◌, ◌+◌, length, None, IfSome, IfNone, IfOk, Err, IsOkUnless, sym, ap}
use Rattle.std.proofs.Common.{◌∙◌, subst}
use Rattle.std.specs.Option.{option_map_or}
use Rattle.std.proofs.lemmas.Result.{IfOk-weaker}
use Rattle.meta_files.specs.declared.fault.StoreFault.TheVariants.{NoMemory}
use Rattle.meta_files.specs.Records.{with_record}
use Rattle.meta_files.specs.Faults.{store_fault}
use Rattle.meta_files.specs.Kept.{append_fault}
use Rattle.meta_files.proofs.KeptLemmas.{seen_None, seen_new, seen_new_fault, seen_Some, seen_there}
use Rattle.meta_files.proofs.KeptLemmas.{seen_fault, None-from_Ok}
use Rattle.meta_files.proofs.files.MetaFiles.store.Goals as goal

pub returns-in_default-clause-version : goal.returns-in_default-clause-version
returns-in_default-clause-version c =
    let none = seen_None c.args.self.now c.self.inside.records.items c.args.name.now c.self.view_is
    (sym (c.self.invariant c.args.name.now) ∙ sym c.in_default.ensures) in
    subst (λ n. IfOk c.append.result (λ version. version ≡ n + 1))
    (sym (ap (λ o. option_map_or (λ found. found.0) o 0) none)) c.append.ensures.version

pub returns-in_default-clause-stored : goal.returns-in_default-clause-stored
returns-in_default-clause-stored c = IfOk-weaker c.append.result _ _
    (λ version. seen_new c.args.self.now c.self.inside.records.items c.args.name.now c.self.view_is
    (sym (c.self.invariant c.args.name.now)
    ∙ sym c.in_default.ensures) version c.args.bytes.now c.append.new.records.items)
    c.append.ensures.written

new_fault : (c : goal.After-append)
    → store_fault c.args.self.now c.args.name.now c.args.expected c.args.bytes.now
    ≡ append_fault (length c.self.inside.records.items) c.args.expected
new_fault c = seen_new_fault c.args.self.now c.self.inside.records.items c.args.name.now c.self.view_is c.args.expected c.args.bytes.now c.if-bytes-gt-MAX_RECORD_BYTES.false (sym (c.self.invariant c.args.name.now) ∙ sym c.in_default.ensures)

pub returns-in_default-clause-refused : goal.returns-in_default-clause-refused
returns-in_default-clause-refused c =
    subst (λ o. IfSome o (λ fault. c.append.result ≡ Err fault)) (sym (new_fault c)) c.append.ensures.refused

pub returns-in_default-clause-accepted : goal.returns-in_default-clause-accepted
returns-in_default-clause-accepted c =
    subst (λ o. IfNone o (IsOkUnless c.append.result NoMemory)) (sym (new_fault c)) c.append.ensures.accepted

pub returns-in_err-version-clause-refused : goal.returns-in_err-version-clause-refused
returns-in_err-version-clause-refused c =
    let due = seen_fault c.args.self.now c.self.inside.records.items c.args.name.now c.self.view_is c.in-Some.place (sym (c.self.invariant c.args.name.now) ∙ sym c.in-Some.ensures) c.index.result.now c.index.ensures c.args.expected c.args.bytes.now c.if-bytes-gt-MAX_RECORD_BYTES.false in
    subst (λ o. IfSome o (λ fault. c.from_residual.result ≡ Err fault)) (sym due) (search rules)

pub returns-in_err-version-clause-accepted : goal.returns-in_err-version-clause-accepted
returns-in_err-version-clause-accepted c =
    let due = seen_fault c.args.self.now c.self.inside.records.items c.args.name.now c.self.view_is c.in-Some.place (sym (c.self.invariant c.args.name.now) ∙ sym c.in-Some.ensures) c.index.result.now c.index.ensures c.args.expected c.args.bytes.now c.if-bytes-gt-MAX_RECORD_BYTES.false in
    subst (λ o. IfNone o (IsOkUnless c.from_residual.result NoMemory)) (sym due) (search rules)

pub returns-in_err-from_slice-clause-refused : goal.returns-in_err-from_slice-clause-refused
returns-in_err-from_slice-clause-refused c =
    let due = seen_fault c.args.self.now c.self.inside.records.items c.args.name.now c.self.view_is c.in-Some.place (sym (c.self.invariant c.args.name.now) ∙ sym c.in-Some.ensures) c.index.result.now c.index.ensures c.args.expected c.args.bytes.now c.if-bytes-gt-MAX_RECORD_BYTES.false in
    let none = None-from_Ok _ c.in_ok-version.version c.in_ok-version.ensures.refused in
    subst (λ o. IfSome o (λ fault. c.from_residual-in_err-from_slice.result ≡ Err fault))
    (sym (due ∙ none)) tt

pub returns-clause-version : goal.returns-clause-version
returns-clause-version c =
    let kept =
    seen_Some c.args.self.now c.self.inside.records.items c.args.name.now c.self.view_is c.in-Some.place
    (sym (c.self.invariant c.args.name.now) ∙ sym c.in-Some.ensures) c.index.result.now c.index.ensures in
    subst (λ o. c.in_ok-version.version ≡ option_map_or (λ found. found.0) o 0 + 1)
    (sym kept) c.in_ok-version.ensures.next

pub returns-clause-stored : goal.returns-clause-stored
returns-clause-stored c =
    let written = seen_there c.args.self.now c.self.inside.records.items c.args.name.now c.self.view_is c.in-Some.place (sym (c.self.invariant c.args.name.now) ∙ sym c.in-Some.ensures) c.index_mut-kept.result.now c.index_mut-kept.ensures.value c.in_ok-version.version c.from_vec-bytes.result in
    written ∙ ap (with_record c.args.self.now c.args.name.now c.in_ok-version.version)
    (c.from_vec-bytes.ensures ∙ c.in_ok-from_slice.ensures.items)

pub returns-clause-refused : goal.returns-clause-refused
returns-clause-refused c =
    let due = seen_fault c.args.self.now c.self.inside.records.items c.args.name.now c.self.view_is c.in-Some.place (sym (c.self.invariant c.args.name.now) ∙ sym c.in-Some.ensures) c.index.result.now c.index.ensures c.args.expected c.args.bytes.now c.if-bytes-gt-MAX_RECORD_BYTES.false in
    let none = None-from_Ok _ c.in_ok-version.version c.in_ok-version.ensures.refused in
    let nothing : store_fault c.args.self.now c.args.name.now c.args.expected c.args.bytes.now ≡ None =
    due ∙ none in
    rw nothing tt
