use Rattle.std.proofs.Common.{◌≡◌, string_bytes}
use Rattle.l2_outside.specs.Memory.{told}
use Rattle.l2_outside.proofs.Told.{told-insert}
use Rattle.l2_outside.proofs.memory.MemShelfShelf.write.Goals as goal

pub returns-in-Ok-insert-clause-ok : goal.returns-in-Ok-insert-clause-ok
returns-in-Ok-insert-clause-ok c =
    let e = told-insert c.call_fails.new.self.files c.insert.new.self (string_bytes c.in-Ok.key) c.in-Ok-from_slice.content c.in-Ok-insert.ensures.updates in
    let k : string_bytes c.in-Ok.key ≡ c.args.name.now = c.in-Ok.ensures.ok in
    let f : told c.call_fails.new.self.files ≡ told c.args.self.now.files = c.call_fails.ensures.files in
    let b : c.in-Ok-from_slice.content.items ≡ c.args.bytes.now = c.in-Ok-from_slice.ensures.items in
    cc
