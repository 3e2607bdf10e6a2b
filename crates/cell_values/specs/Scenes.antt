-- Where code runs, as the code keeps it.
use Rattle.net_check.specs.Network.{network}
use Rattle.sefl_meaning.specs.Carried.{Scene}
use Rattle.cell_values.specs.declared.scene.Scene as code

abbrev pub scene_of : code.Scene → Scene
scene_of at = record { net = network at.net.now; node = at.node; iterations = at.iterations.now }
