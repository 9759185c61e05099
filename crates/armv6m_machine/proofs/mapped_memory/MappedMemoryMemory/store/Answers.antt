use Rattle.std.proofs.Common.{true}
use Rattle.armv6m_machine.proofs.Bytes.{stores_alone, aligned_free, in_ram_free}
use Rattle.armv6m_machine.proofs.mapped_memory.MappedMemoryMemory.store.Goals as goal

pub returns-clause-content : goal.returns-clause-content
returns-clause-content c =
    rw c.put.ensures.after (stores_alone c.args.self.now c.args.address c.args.bytes c.args.word c.put.ensures.whole (in_ram_free c.args.self.now.base (record { at = c.args.address; bytes = c.args.bytes }) c.requires.free) c.requires.size
    (aligned_free c.args.self.now.base true (record { at = c.args.address; bytes = c.args.bytes }) c.requires.free))
