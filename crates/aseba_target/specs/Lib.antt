pub mod Beats
pub mod MachineRun
pub mod Node
pub mod Place
pub mod Worked
