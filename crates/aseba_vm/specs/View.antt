-- What contracts see of a machine.
use Rattle.aseba_vm.specs.declared.machine.Machine.TheInside.{Inside}
use Rattle.aseba_vm.specs.State.{State}

abbrev pub view_of : Inside → State
view_of m = record {
  shape = m.shape;
  id = m.id;
  code = m.code.items;
  cells = m.cells.items;
  stack = m.stack.values;
  pc = m.pc;
  active = m.active;
  paused = m.paused;
  held = m.held.items;
}
